-- Horner's rule: a polynomial with the coefficients c(0), .., c(m) moved to u + h t, from the top down.
use Rattle.std.specs.Prelude.{ℕ, suc, ◌*◌, ◌-◌, ◌^◌, ℤ, ◌*ℤ◌, nat_abs}
use Rattle.algebra.specs.Sum.{sum, sumℕ, span}
use Rattle.algebra.specs.Binomial.{entry}

-- the coefficient of t^a in the sum of c(n) (u + h t)^(n-j) over n = j..m: what Horner's rule holds when it has come down to j
unfoldable pub shifted : (ℕ → ℤ) → ℤ → ℤ → ℕ → ℕ → ℕ → ℤ
shifted c u h m j a = sum (span j (suc m)) (λ n. c n *ℤ entry u h (n - j) a)

-- the sum of |c(n)| b^(n-j) over n = j..m, which bounds all of it where b = |u| + |h|
unfoldable pub load : (ℕ → ℤ) → ℕ → ℕ → ℕ → ℕ
load c b m j = sumℕ (span j (suc m)) (λ n. nat_abs (c n) * b ^ (n - j))
