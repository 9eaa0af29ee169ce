-- The local form of a cell: the table G(a,b), a + b at most d, with F(U0 + H·e, V0 + H·g) = sum of G(a,b)·e^a·g^b (specs/Facts, `Expands`).
use Rattle.std.specs.Prelude.{ℕ, ◌+◌, ◌-◌, ℤ, pos, ◌*ℤ◌}
use Rattle.std.proofs.Math.IntN.{pow}
use Rattle.algebra.specs.Sum.{sum, ◌⋯◌}
use Rattle.algebra.specs.Binomial.{choose}
use Rattle.page.specs.Sheet.{Sheet}
use Rattle.page.specs.Scaled.{scaled, half_side, U0, V0}

-- G(a,b) in the cell at level l, column p, row q: the sum over i ≥ a, j ≥ b of
-- A(i,j) · 2^((k+1)(d-i-j)) · C(i,a) · C(j,b) · U0^(i-a) · V0^(j-b) · H^(a+b)
unfoldable pub G : Sheet → ℕ → ℕ → ℕ → ℕ → ℕ → ℤ
G S l p q a b = sum (a ⋯ S.d) (λ i. sum (b ⋯ (S.d - i)) (λ j.
    scaled S i j *ℤ pos (choose i a) *ℤ pos (choose j b) *ℤ pow (U0 S l p) (i - a) *ℤ pow (V0 S l q) (j - b) *ℤ pow (pos (half_side S l)) (a + b)))
