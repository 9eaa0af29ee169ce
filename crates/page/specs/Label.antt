-- The bend on the label (#101): what the largest bend among coloured finest cells says of a sheet, as a statement of every sheet, accepted or not, and both modes. That it holds is proofs/Label.
use Rattle.std.specs.Prelude.{◌≡◌, ℕ, ◌*◌, ◌^◌, ◌<◌, pos, neg_ℤ, ◌<ℤ◌}
use Rattle.forms.specs.Bounds.{Mode}
use Rattle.verdicts.specs.Walking.{colour, largest_bend}
use Rattle.verdicts.specs.Facts.{IsLargest}
use Rattle.page.specs.Sheet.{Sheet}
use Rattle.page.specs.Scaled.{F, half_side, U0, V0, MeetsCurve}
use Rattle.page.specs.Bounds.{lower, upper, bend, verdict}
use Rattle.page.specs.Demand3.{AtCorners, NearCorners}

-- the number b on the label of a sheet whose coloured finest cells are those of the property
pub record Labelled (S : Sheet) (mode : Mode) (is_coloured : ℕ → ℕ → Type 0) (b : ℕ) : Type 0 where
  -- each coloured cell's bend is at most b; where a cell is coloured one of them has just that, and where none is b is 0
  pub largest : IsLargest S.k is_coloured (bend S S.k) b
  -- where b is 0, every coloured cell meets the curve
  pub straight : b ≡ 0 → (p q : ℕ) → p < 2 ^ S.k → q < 2 ^ S.k → is_coloured p q → MeetsCurve S S.k p q
  -- in every coloured cell neither bound lies further beyond the extreme corner value on its side than twice b
  pub near : (p q : ℕ) → p < 2 ^ S.k → q < 2 ^ S.k → is_coloured p q → NearCorners S S.k p q (lower S mode S.k p q) (upper S mode S.k p q) (2 * b)
  -- so its four corner values do not all lie above 2 b, nor all below -2 b
  pub not_far : (p q : ℕ) → p < 2 ^ S.k → q < 2 ^ S.k → is_coloured p q →
      (AtCorners (U0 S S.k p) (V0 S S.k q) (half_side S S.k) (λ u v. pos (2 * b) <ℤ F S u v) → ⊥)
      × (AtCorners (U0 S S.k p) (V0 S S.k q) (half_side S S.k) (λ u v. F S u v <ℤ neg_ℤ (pos (2 * b))) → ⊥)

-- by the page's colours, the label's bend is the largest one
abbrev pub SheetLabelled : Type 0
SheetLabelled = (S : Sheet) (mode : Mode) → Labelled S mode (λ p q. colour (verdict S mode) S.k p q ≡ 1) (largest_bend (verdict S mode) S.k)
