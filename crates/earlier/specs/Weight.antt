-- The weight before #102, with one limit for both axes, and the refusals by it.
use Rattle.std.specs.Prelude.{cond, map, ℕ, ◌+◌, ◌*◌, ◌-◌, ◌^◌, ◌<◌, max, leb, eqb, pos, ◌+ℤ◌, nat_abs}
use Rattle.algebra.specs.Sum.{sumℕ, ◌⋯◌}
use Rattle.algebra.specs.Digits.{digits}
use Rattle.page.specs.Sheet.{Sheet, A, InRange}
use Rattle.page.specs.Refusals.{Input, Row, ◌when◌, table, first}

-- R is the largest of |X|, |X + 2^s|, |Y|, |Y + 2^s|
abbrev pub old_R : Sheet → ℕ
old_R S = max (max (nat_abs S.X) (nat_abs (S.X +ℤ pos (2 ^ S.s)))) (max (nat_abs S.Y) (nat_abs (S.Y +ℤ pos (2 ^ S.s))))

-- 2^((k+1)d) times the sum of |A(i,j)| · R^(i+j)
unfoldable pub old_weight : Sheet → ℕ
old_weight S = 2 ^ ((S.k + 1) * S.d) * sumℕ (0 ⋯ S.d) (λ i. sumℕ (0 ⋯ (S.d - i)) (λ j. nat_abs (A S i j) * old_R S ^ (i + j)))

-- a sheet was accepted only if that was below 2^62
pub record OldAccepted (S : Sheet) : Type 0 where
  pub ranges : InRange S
  pub light : old_weight S < 2 ^ 62

-- spare places: 62 minus the count of its binary digits
abbrev pub old_spare : Sheet → ℕ
old_spare S = 62 - digits (old_weight S)

-- the table: row 6 asks for that weight, and every other row is as it stands
abbrev pub old_row : Sheet → Row → Row
old_row S r = cond (eqb r.number 6) (6 when leb (2 ^ 62) (old_weight S)) r

abbrev pub old_refusal : Input → ℕ
old_refusal c = first (map (old_row c.sheet) (table c))
