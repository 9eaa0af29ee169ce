-- Scaled numbers: lengths are counted in units of 1/2^(k+1).
use Rattle.std.specs.Prelude.{◌≡◌, ℕ, ◌+◌, ◌*◌, ◌-◌, ◌^◌, ◌≤◌, ◌<◌, ℤ, pos, ◌+ℤ◌, ◌-ℤ◌, ◌*ℤ◌, nat_abs}
use Rattle.std.proofs.Math.IntN.{pow}
use Rattle.algebra.specs.Sum.{sum, ◌⋯◌}
use Rattle.page.specs.Sheet.{Sheet, A}

-- A(i,j) · 2^((k+1)(d-i-j))
abbrev pub scaled : Sheet → ℕ → ℕ → ℤ
scaled S i j = A S i j *ℤ pos (2 ^ ((S.k + 1) * (S.d - i - j)))

-- F(U, V), the sum of A(i,j) · 2^((k+1)(d-i-j)) · U^i · V^j
unfoldable pub F : Sheet → ℤ → ℤ → ℤ
F S u v = sum (0 ⋯ S.d) (λ i. sum (0 ⋯ (S.d - i)) (λ j. scaled S i j *ℤ pow u i *ℤ pow v j))

-- ---- the cell at level j (0 to k), column p, row q (both below 2^j)
pub record IsCell (k j p q : ℕ) : Type 0 where
  pub level : j ≤ k
  pub column : p < 2 ^ j
  pub row : q < 2 ^ j

-- its half-side H, and its centre U0 = 2^(k+1)·X + (2p+1)·H and V0 = 2^(k+1)·Y + (2q+1)·H
abbrev pub half_side : Sheet → ℕ → ℕ
half_side S j = 2 ^ (S.s + S.k - j)

abbrev pub U0 : Sheet → ℕ → ℕ → ℤ
U0 S j p = pos (2 ^ (S.k + 1)) *ℤ S.X +ℤ pos ((2 * p + 1) * half_side S j)

abbrev pub V0 : Sheet → ℕ → ℕ → ℤ
V0 S j q = pos (2 ^ (S.k + 1)) *ℤ S.Y +ℤ pos ((2 * q + 1) * half_side S j)

-- ---- a point with fractional coordinates U = M/Q and V = N/Q. The page has Q at least 1; where a statement asks for that it says so
-- it lies in the cell when |M - Q·U0| and |N - Q·V0| are at most Q·H
pub record InCell (S : Sheet) (j p q : ℕ) (M N : ℤ) (Q : ℕ) : Type 0 where
  pub across : nat_abs (M -ℤ pos Q *ℤ U0 S j p) ≤ Q * half_side S j
  pub along : nat_abs (N -ℤ pos Q *ℤ V0 S j q) ≤ Q * half_side S j

-- the value there, times Q^d: the sum of A(i,j) · 2^((k+1)(d-i-j)) · M^i · N^j · Q^(d-i-j)
unfoldable pub value_at : Sheet → ℤ → ℤ → ℕ → ℤ
value_at S M N Q = sum (0 ⋯ S.d) (λ i. sum (0 ⋯ (S.d - i)) (λ j. scaled S i j *ℤ pow M i *ℤ pow N j *ℤ pow (pos Q) (S.d - i - j)))

-- f at M/Q and N/Q, times Q^d: the sum of A(i,j) · M^i · N^j · Q^(d-i-j). That F(U, V) = 2^((k+1)d) · f(x, y) is specs/Facts, `ScalesF`
unfoldable pub f_at : Sheet → ℤ → ℤ → ℕ → ℤ
f_at S M N Q = sum (0 ⋯ S.d) (λ i. sum (0 ⋯ (S.d - i)) (λ j. A S i j *ℤ pow M i *ℤ pow N j *ℤ pow (pos Q) (S.d - i - j)))

-- a cell meets the curve when some such point in it makes the sum 0
pub record MeetsCurve (S : Sheet) (j p q : ℕ) : Type 0 where
  pub M : ℤ
  pub N : ℤ
  pub Q : ℕ
  pub positive : 1 ≤ Q
  pub inside : InCell S j p q M N Q
  pub vanishes : value_at S M N Q ≡ pos 0
