-- Demand 3 carried to the raster, and that number 9 is never given, as statements of every sheet, accepted or not. That they hold is proofs/Raster.
use Rattle.std.specs.Prelude.{◌≡◌, ℕ, ◌+◌, ◌*◌, ◌-◌, ◌/◌, ◌^◌, ◌≤◌, ◌<◌, ℤ, pos, get_or, ◌<ℤ◌}
use Rattle.forms.specs.Bounds.{Mode}
use Rattle.verdicts.specs.Walking.{colour, raster, visited}
use Rattle.page.specs.Sheet.{Sheet, mode_of}
use Rattle.page.specs.Scaled.{InCell, value_at, MeetsCurve}
use Rattle.page.specs.Bounds.{bend, verdict}
use Rattle.page.specs.Refusals.{Input, refusal}

-- a point of the cell at level j, column p, row q lies in the cell at level l that encloses it: column p/2^(j-l), row q/2^(j-l)
abbrev pub Encloses : Type 0
Encloses = (S : Sheet) (l j p q : ℕ) → l ≤ j → j ≤ S.k → (M N : ℤ) (Q : ℕ) → InCell S j p q M N Q → InCell S l (p / 2 ^ (j - l)) (q / 2 ^ (j - l)) M N Q

-- ---- by the colour of a finest cell
-- a white one has one strict sign throughout, edges included: positive where it is above, negative where it is below
abbrev pub WhiteSigned : Type 0
WhiteSigned = (S : Sheet) (mode : Mode) (p q : ℕ) (M N : ℤ) (Q : ℕ) → 1 ≤ Q → InCell S S.k p q M N Q →
    (colour (verdict S mode) S.k p q ≡ 2 → pos 0 <ℤ value_at S M N Q) × (colour (verdict S mode) S.k p q ≡ 3 → value_at S M N Q <ℤ pos 0)

-- a coloured one without bend meets the curve
abbrev pub ColouredMeets : Type 0
ColouredMeets = (S : Sheet) (mode : Mode) (p q : ℕ) → colour (verdict S mode) S.k p q ≡ 1 → bend S S.k p q ≡ 0 → MeetsCurve S S.k p q

-- ---- the same by the raster's byte for the cell, the one at q·2^k + p
abbrev pub RasterSigned : Type 0
RasterSigned = (S : Sheet) (mode : Mode) (p q : ℕ) → p < 2 ^ S.k → q < 2 ^ S.k → (M N : ℤ) (Q : ℕ) → 1 ≤ Q → InCell S S.k p q M N Q →
    (get_or (raster (verdict S mode) S.k) (q * 2 ^ S.k + p) 0 ≡ 2 → pos 0 <ℤ value_at S M N Q)
    × (get_or (raster (verdict S mode) S.k) (q * 2 ^ S.k + p) 0 ≡ 3 → value_at S M N Q <ℤ pos 0)

abbrev pub RasterMeets : Type 0
RasterMeets = (S : Sheet) (mode : Mode) (p q : ℕ) → p < 2 ^ S.k → q < 2 ^ S.k →
    get_or (raster (verdict S mode) S.k) (q * 2 ^ S.k + p) 0 ≡ 1 → bend S S.k p q ≡ 0 → MeetsCurve S S.k p q

-- ---- row 9: visited is never above 65,535 where k is at most 7, and a larger k is refused by row 3; so no input at all is given number 9
abbrev pub NeverTooMany : Type 0
NeverTooMany = (S : Sheet) (mode : ℕ) → S.k ≤ 7 → visited (verdict S (mode_of mode)) S.k ≤ 65_535

abbrev pub NeverNine : Type 0
NeverNine = (c : Input) → refusal c ≡ 9 → ⊥
