-- The weight and the spare places.
use Rattle.std.specs.Prelude.{ℕ, ◌+◌, ◌*◌, ◌-◌, ◌^◌, ◌<◌, max, ℤ, pos, ◌+ℤ◌, nat_abs}
use Rattle.algebra.specs.Sum.{sumℕ, ◌⋯◌}
use Rattle.algebra.specs.Digits.{digits}
use Rattle.page.specs.Sheet.{Sheet, A, InRange}

-- how far the square goes along an axis: the larger of |z| and |z + 2^s|, z being its corner there
abbrev pub axis_limit : ℤ → ℕ → ℕ
axis_limit z s = max (nat_abs z) (nat_abs (z +ℤ pos (2 ^ s)))

-- Rx is the larger of |X| and |X + 2^s|, and Ry likewise of Y (#102)
abbrev pub Rx : Sheet → ℕ
Rx S = axis_limit S.X S.s

abbrev pub Ry : Sheet → ℕ
Ry S = axis_limit S.Y S.s

-- 2^((k+1)d) times the sum of |A(i,j)| · Rx^i · Ry^j (#102)
unfoldable pub weight : Sheet → ℕ
weight S = 2 ^ ((S.k + 1) * S.d) * sumℕ (0 ⋯ S.d) (λ i. sumℕ (0 ⋯ (S.d - i)) (λ j. nat_abs (A S i j) * Rx S ^ i * Ry S ^ j))

-- a sheet is accepted only if its weight is below 2^62
pub record Accepted (S : Sheet) : Type 0 where
  pub ranges : InRange S
  pub light : weight S < 2 ^ 62

-- spare places is 62 minus the count of binary digits of the weight (weight 0 has none, so 62)
abbrev pub spare : Sheet → ℕ
spare S = 62 - digits (weight S)
