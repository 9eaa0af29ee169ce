-- The binomial coefficient C(n,k), by Pascal's rule, and the tables that are made from it.
use Rattle.std.specs.Prelude.{ℕ, zero, suc, ◌+◌, ◌-◌, ℤ, pos, ◌*ℤ◌}
use Rattle.std.proofs.Math.IntN.{pow}

-- zero where k is above n
unfoldable pub choose : ℕ → ℕ → ℕ
choose zero zero = 1
choose zero (suc k) = 0
choose (suc n) zero = 1
choose (suc n) (suc k) = choose n k + choose n (suc k)

-- document 000's tables: C(n,k) u^(n-k) h^k, the coefficient of t^k in (u + h t)^n
unfoldable pub entry : ℤ → ℤ → ℕ → ℕ → ℤ
entry u h n k = pos (choose n k) *ℤ pow u (n - k) *ℤ pow h k
