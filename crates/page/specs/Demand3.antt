-- Demand 3 for the cells of a sheet, as statements, each about every sheet, both modes, every level, column and row. That they hold is proofs/Demand3.
use Rattle.std.specs.Prelude.{◌≡◌, ℕ, ◌+◌, ◌*◌, ◌^◌, ◌≤◌, ◌<◌, ℤ, pos, ◌+ℤ◌, ◌-ℤ◌, ◌*ℤ◌, nat_abs, ◌≤ℤ◌, ◌<ℤ◌}
use Rattle.forms.specs.Bounds.{Mode}
pub use Rattle.forms.specs.Plane.{AtCorners}
use Rattle.verdicts.specs.declared.Verdict.TheVariants.{Above, Below, Open}
use Rattle.page.specs.Sheet.{Sheet}
use Rattle.page.specs.Scaled.{F, IsCell, half_side, U0, V0, InCell, value_at, MeetsCurve}
use Rattle.page.specs.LocalForm.{G}
use Rattle.page.specs.Bounds.{lower, upper, bend, verdict}
use Rattle.page.specs.Weight.{Accepted}

-- the value at every point with fractional coordinates in the cell, edges included, taken from the coefficients, lies between Q^d times each bound, for every M, N and Q of any size
abbrev pub Contained : Type 0
Contained = (S : Sheet) (mode : Mode) (j p q : ℕ) (M N : ℤ) (Q : ℕ) → InCell S j p q M N Q →
    ((pos (Q ^ S.d) *ℤ lower S mode j p q) ≤ℤ value_at S M N Q) × (value_at S M N Q ≤ℤ (pos (Q ^ S.d) *ℤ upper S mode j p q))

-- neither of two bounds of a cell lies further beyond the extreme corner value on its side than n: m - n ≤ lower for every m that is at most the four corner values, and likewise above
abbrev pub NearCorners : Sheet → ℕ → ℕ → ℕ → ℤ → ℤ → ℕ → Type 0
NearCorners S j p q lower upper n =
    ((m : ℤ) → AtCorners (U0 S j p) (V0 S j q) (half_side S j) (λ u v. m ≤ℤ F S u v) → (m -ℤ pos n) ≤ℤ lower)
    × ((m : ℤ) → AtCorners (U0 S j p) (V0 S j q) (half_side S j) (λ u v. F S u v ≤ℤ m) → upper ≤ℤ (m +ℤ pos n))

-- no bound overshoots the extreme corner value on its side by more than twice the bend
abbrev pub NoOvershoot : Type 0
NoOvershoot = (S : Sheet) (mode : Mode) (j p q : ℕ) → NearCorners S j p q (lower S mode j p q) (upper S mode j p q) (2 * bend S j p q)

-- a cleared cell has one strict sign throughout
abbrev pub OneSign : Type 0
OneSign = (S : Sheet) (mode : Mode) (j p q : ℕ) (M N : ℤ) (Q : ℕ) → 1 ≤ Q → InCell S j p q M N Q → (l u : ℤ) (b : ℕ) →
    (verdict S mode j p q ≡ Above l u b → pos 0 <ℤ value_at S M N Q) × (verdict S mode j p q ≡ Below l u b → value_at S M N Q <ℤ pos 0)

-- an open cell without bend meets the curve
abbrev pub OpenMeets : Type 0
OpenMeets = (S : Sheet) (mode : Mode) (j p q : ℕ) (l u : ℤ) → verdict S mode j p q ≡ Open l u 0 → MeetsCurve S j p q

-- ---- what fits in 64 signed bits
abbrev pub Fits64 : ℤ → Type 0
Fits64 z = nat_abs z < 2 ^ 63

-- every coordinate, every G, bound, bend and value F of one cell does
pub record CellFits (S : Sheet) (mode : Mode) (j p q : ℕ) : Type 0 where
  -- the half-side, the centre, the edges, and every whole-number point of the cell
  pub half : Fits64 (pos (half_side S j))
  pub centre : Fits64 (U0 S j p) × Fits64 (V0 S j q)
  pub edges : AtCorners (U0 S j p) (V0 S j q) (half_side S j) (λ u v. Fits64 u × Fits64 v)
  pub points : (u v : ℤ) → InCell S j p q u v 1 → Fits64 u × Fits64 v
  pub form : (a b : ℕ) → a + b ≤ S.d → Fits64 (G S j p q a b)
  pub bounds : Fits64 (lower S mode j p q) × Fits64 (upper S mode j p q)
  pub bends : Fits64 (pos (bend S j p q))
  -- the value at every whole-number point of the cell; the square is the cell at level 0
  pub values : (u v : ℤ) → InCell S j p q u v 1 → Fits64 (F S u v)

-- in every cell of an accepted sheet, in both modes
abbrev pub AllFit : Type 0
AllFit = (S : Sheet) → Accepted S → (mode : Mode) (j p q : ℕ) → IsCell S.k j p q → CellFits S mode j p q
