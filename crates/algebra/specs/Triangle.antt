-- A triangle of terms f(i,j), i + j ≤ d: its sum, and its places when it is written out row by row.
use Rattle.std.specs.Prelude.{ℕ, suc, ◌+◌, ◌-◌}
use Rattle.algebra.specs.Sum.{sumℕ, span, ◌⋯◌}

-- the sum of a whole triangle of natural numbers
abbrev pub triangle : ℕ → (ℕ → ℕ → ℕ) → ℕ
triangle d g = sumℕ (0 ⋯ d) (λ i. sumℕ (0 ⋯ (d - i)) (g i))

-- where f(i,j) stands when a triangle is written out row by row: the rows r before i have d + 1 - r places each
unfoldable pub row_start : ℕ → ℕ → ℕ
row_start d i = sumℕ (span 0 i) (λ r. suc (d - r))

abbrev pub place : ℕ → ℕ → ℕ → ℕ
place d i j = row_start d i + j
