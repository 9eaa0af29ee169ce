-- How long a number is, written in base 2.
use Rattle.std.specs.Prelude.{cond, ℕ, ◌^◌, leb}
use Rattle.algebra.specs.Sum.{sumℕ, span}

-- the count of binary digits of a number below 2^64: how many of 1, 2, 4, .., 2^63 are at most it
unfoldable pub digits : ℕ → ℕ
digits n = sumℕ (span 0 64) (λ i. cond (leb (2 ^ i) n) 1 0)
