-- The coloured cells hold every point of the curve with fractional coordinates, as statements of every sheet, accepted or not, and both modes. That they hold is proofs/Cover.
use Rattle.std.specs.Prelude.{◌≡◌, ℕ, ◌+◌, ◌*◌, ◌≤◌, ◌<◌, ℤ, pos, ◌+ℤ◌, ◌-ℤ◌}
use Rattle.forms.specs.Bounds.{Mode}
use Rattle.verdicts.specs.Walking.{colour}
use Rattle.page.specs.Sheet.{Sheet}
use Rattle.page.specs.Scaled.{IsCell, half_side, U0, V0, InCell, value_at}
use Rattle.page.specs.Bounds.{verdict}

-- a cell that is cut has four parts, half as large: columns 2p to its left and 2p + 1 to its right, rows 2q below and 2q + 1 above. No half-side of 1 is halved for it
abbrev pub CutInFour : Type 0
CutInFour = (S : Sheet) (j p q : ℕ) → j < S.k → let H = half_side S (j + 1) in
    (half_side S j ≡ 2 * H) × (U0 S (j + 1) (2 * p) ≡ U0 S j p -ℤ pos H) × (U0 S (j + 1) (2 * p + 1) ≡ U0 S j p +ℤ pos H)
    × (V0 S (j + 1) (2 * q) ≡ V0 S j q -ℤ pos H) × (V0 S (j + 1) (2 * q + 1) ≡ V0 S j q +ℤ pos H)

-- ---- a cell of level j that holds the point
pub record Holder (S : Sheet) (j : ℕ) (M N : ℤ) (Q : ℕ) : Type 0 where
  pub column : ℕ
  pub row : ℕ
  pub is_cell : IsCell S.k j column row
  pub inside : InCell S j column row M N Q

-- the cells of each level cover the square, which is the cell of level 0: no point of it lies between cells
abbrev pub LevelsCover : Type 0
LevelsCover = (S : Sheet) (j : ℕ) → j ≤ S.k → (M N : ℤ) (Q : ℕ) → InCell S 0 0 0 M N Q → Holder S j M N Q

-- a finest cell that holds a point of the curve is coloured
abbrev pub CurveColoured : Type 0
CurveColoured = (S : Sheet) (mode : Mode) (p q : ℕ) (M N : ℤ) (Q : ℕ) → 1 ≤ Q → InCell S S.k p q M N Q → value_at S M N Q ≡ pos 0 → colour (verdict S mode) S.k p q ≡ 1

-- so every point of the curve in the square, M/Q and N/Q, lies in a coloured finest cell
abbrev pub CurveCovered : Type 0
CurveCovered = (S : Sheet) (mode : Mode) (M N : ℤ) (Q : ℕ) → 1 ≤ Q → InCell S 0 0 0 M N Q → value_at S M N Q ≡ pos 0
    → (h : Holder S S.k M N Q) × (colour (verdict S mode) S.k h.column h.row ≡ 1)
