-- The value of a table at a point: what the contracts of `row_value` and `value_at` say.
use Rattle.std.specs.Prelude.{List, ℕ, ◌+◌, ◌*◌, ◌-◌, ◌^◌, ◌≤◌, ◌<◌, ℤ, ◌*ℤ◌, nat_abs}
use Rattle.std.proofs.Math.IntN.{pow}
use Rattle.algebra.specs.Sum.{sum, sumℕ, ◌⋯◌}
use Rattle.algebra.specs.Triangle.{triangle}
use Rattle.tables.specs.Table.{row_of, held}

-- ---- the sum of c(j) v^j over a row, with b at least |v|; the sizes leave room for Horner's rule
abbrev pub row_value : List ℤ → ℕ → ℕ → ℤ → ℤ
row_value places first n v = sum (0 ⋯ n) (λ j. row_of places first j *ℤ pow v j)

pub record RowValuable (first n : ℕ) (v : ℤ) (places : List ℤ) : Type 0 where
  pub short : n ≤ 8
  pub inside : first + n < 45
  pub b : ℕ
  pub wide : (1 ≤ b) × (nat_abs v ≤ b)
  pub light : sumℕ (0 ⋯ n) (λ j. nat_abs (row_of places first j) * b ^ j) < 2 ^ 63

-- ---- the sum of f(i,j) u^i v^j over a table, with a at least |u| and b at least |v|
abbrev pub table_value : List ℤ → ℕ → ℤ → ℤ → ℤ
table_value places d u v = sum (0 ⋯ d) (λ i. sum (0 ⋯ (d - i)) (λ j. held places d i j *ℤ pow u i *ℤ pow v j))

pub record Valuable (d : ℕ) (u v : ℤ) (places : List ℤ) : Type 0 where
  pub small : d ≤ 8
  pub a : ℕ
  pub b : ℕ
  pub wide : (1 ≤ a) × (nat_abs u ≤ a) × (1 ≤ b) × (nat_abs v ≤ b)
  pub light : triangle d (λ i j. nat_abs (held places d i j) * (a ^ i * b ^ j)) < 2 ^ 63
