-- What the page says of its definitions, as statements, each with all that it holds for. That they hold is proofs/Facts and proofs/Edges.
use Rattle.std.specs.Prelude.{◌≡◌, true, false, ◌↔◌, ℕ, ◌+◌, ◌*◌, ◌-◌, ◌^◌, ◌≤◌, ℤ, pos, ◌+ℤ◌, ◌-ℤ◌, ◌*ℤ◌, ◌≤ℤ◌}
use mathlib.Core.List.{List, ◌∷◌, ◌++◌, Memᴰ}
use Rattle.std.proofs.Math.IntN.{pow}
use Rattle.algebra.specs.Sum.{sum, ◌⋯◌}
use Rattle.forms.specs.Bounds.{Mode}
use Rattle.page.specs.Sheet.{Sheet, count, A, InRange}
use Rattle.page.specs.Scaled.{F, half_side, U0, V0, InCell, value_at, f_at}
use Rattle.page.specs.LocalForm.{G}
use Rattle.page.specs.Bounds.{lower, upper}
use Rattle.page.specs.Weight.{Accepted}
use Rattle.page.specs.Refusals.{Input, misplaced, point, Row, table, first, refusal, to_check}

-- F(U, V) = 2^((k+1)d) · f(x, y), with U = 2^(k+1)·x and V = 2^(k+1)·y, at every fractional x = M/Q and y = N/Q; and at whole numbers the value is F
abbrev pub ScalesF : Type 0
ScalesF = (S : Sheet) (M N : ℤ) (Q : ℕ) → value_at S (pos (2 ^ (S.k + 1)) *ℤ M) (pos (2 ^ (S.k + 1)) *ℤ N) Q ≡ pos (2 ^ ((S.k + 1) * S.d)) *ℤ f_at S M N Q

abbrev pub AtWhole : Type 0
AtWhole = (S : Sheet) (u v : ℤ) → value_at S u v 1 ≡ F S u v

-- the value times Q^d goes by the point alone: M/Q and N/Q written with c times as much above and below give c^d times as much
abbrev pub SameFraction : Type 0
SameFraction = (S : Sheet) (M N : ℤ) (Q c : ℕ) → value_at S (pos c *ℤ M) (pos c *ℤ N) (c * Q) ≡ pos (c ^ S.d) *ℤ value_at S M N Q

-- the lower bound of a cell is at most the upper one: no cell is above and below at once
abbrev pub BoundsInOrder : Type 0
BoundsInOrder = (S : Sheet) (mode : Mode) (j p q : ℕ) → lower S mode j p q ≤ℤ upper S mode j p q

-- neighbours share their edges
abbrev pub SharedEdges : Type 0
SharedEdges = (S : Sheet) (j p q : ℕ) → (U0 S j p +ℤ pos (half_side S j) ≡ U0 S j (p + 1) -ℤ pos (half_side S j)) × (V0 S j q +ℤ pos (half_side S j) ≡ V0 S j (q + 1) -ℤ pos (half_side S j))

-- the closed square is the cell at level 0: its whole-number points are those that row 8 lets through
abbrev pub SquareIsCell : Type 0
SquareIsCell = (S : Sheet) (u v : ℤ) → (misplaced S (point u v) ≡ false) ↔ InCell S 0 0 0 u v 1

-- F(U0 + H·e, V0 + H·g) = sum of G(a,b)·e^a·g^b, at every fractional e = M/Q and g = N/Q, both sides times Q^d
abbrev pub Expands : Type 0
Expands = (S : Sheet) (j p q : ℕ) (M N : ℤ) (Q : ℕ) →
    value_at S (pos Q *ℤ U0 S j p +ℤ pos (half_side S j) *ℤ M) (pos Q *ℤ V0 S j q +ℤ pos (half_side S j) *ℤ N) Q
    ≡ sum (0 ⋯ S.d) (λ a. sum (0 ⋯ (S.d - a)) (λ b. G S j p q a b *ℤ (pow M a *ℤ pow N b) *ℤ pow (pos Q) (S.d - a - b)))

-- a sheet has at most 45 coefficients
abbrev pub AtMost45 : Type 0
AtMost45 = (d : ℕ) → d ≤ 8 → count d ≤ 45

-- a sheet is accepted exactly where check refuses it by no number
abbrev pub AcceptedByCheck : Type 0
AcceptedByCheck = (S : Sheet) → Accepted S ↔ (refusal (to_check S) ≡ 0)

-- d 8 with k 7: refusal 6 unless every coefficient is 0
abbrev pub OnlyZeros : Type 0
OnlyZeros = (S : Sheet) → InRange S → S.d ≡ 8 → S.k ≡ 7 →
    (((i j : ℕ) → i + j ≤ 8 → A S i j ≡ pos 0) → refusal (to_check S) ≡ 0) × ((i j : ℕ) → i + j ≤ 8 → (A S i j ≡ pos 0 → ⊥) → refusal (to_check S) ≡ 6)

-- ---- a number is given exactly when its row's condition holds and nothing tried before it does
pub record GivenBy (rows : List Row) (n : ℕ) : Type 0 where
  pub before : List Row
  pub row : Row
  pub after : List Row
  pub split : rows ≡ before ++ (row ∷ after)
  pub number : row.number ≡ n
  pub holds : row.holds ≡ true
  pub nothing_before : (r : Row) → Memᴰ r before → r.holds ≡ false

abbrev pub GivenExactly : Type 0
GivenExactly = (rows : List Row) (n : ℕ) → (n ≡ 0 → ⊥) → (first rows ≡ n) ↔ GivenBy rows n

-- and the number is 0 exactly where no row's condition holds
abbrev pub NoneGiven : Type 0
NoneGiven = (c : Input) → (refusal c ≡ 0) ↔ ((r : Row) → Memᴰ r (table c) → r.holds ≡ false)
