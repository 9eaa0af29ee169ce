-- Sums of powers of one number.
use Rattle.std.specs.Prelude.{List, ℕ, ◌+◌, ◌*◌, ◌^◌, ℤ, pos, nat_abs, get_or}
use Rattle.algebra.specs.Sum.{sumℕ, ◌⋯◌}

-- f(0) + f(1) r + f(2) r^2 + .. + f(n) r^n
abbrev pub series : (ℕ → ℕ) → ℕ → ℕ → ℕ
series f r n = sumℕ (0 ⋯ n) (λ j. f j * r ^ j)

-- the sizes of the coefficients from `first` on
abbrev pub sizes : List ℤ → ℕ → ℕ → ℕ
sizes coefficients first j = nat_abs (get_or coefficients (first + j) (pos 0))
