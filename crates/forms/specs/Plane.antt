-- The plane: polynomials, points and limits with two variables.
use Rattle.std.specs.Prelude.{Bool, false, ◌&&◌, List, [], ◌∷◌, ℕ, zero, suc, ◌+◌, ◌-◌, ◌%◌, eqb, ℤ, pos, ◌+ℤ◌, ◌-ℤ◌, ◌*ℤ◌}
use Rattle.std.proofs.Math.IntN.{pow}
use Rattle.algebra.specs.Sum.{sum, ◌⋯◌}
use Rattle.algebra.specs.Binomial.{choose, entry}
use Rattle.forms.specs.Polynomial.{Polynomial}
use Rattle.forms.specs.Bounds.{Mode, affine, centred}

-- x at the first variable and y at the second
abbrev pub pair {ℓ} : {A : Type ℓ} → A → A → ℕ → A
pair x y zero = x
pair x y (suc v) = y

-- A(i,j) at the vector i ∷ j ∷ []
abbrev pub at_pair : (ℕ → ℕ → ℤ) → List ℕ → ℤ
at_pair A [] = A 0 0
at_pair A (i ∷ []) = A i 0
at_pair A (i ∷ j ∷ e) = A i j

abbrev pub plane : ℕ → ℕ → (ℕ → ℕ → ℤ) → Polynomial
plane d S A = record { variables = 2; degree = d; scale = S; coefficient = at_pair A }

-- the second variable moved by v, f(x, y + v): a sum along row i; and the first by u, f(x + u, y): a sum along column b
unfoldable pub along : ℕ → (ℕ → ℕ → ℤ) → ℤ → ℕ → ℕ → ℤ
along d f v i b = sum (0 ⋯ (d - i)) (λ j. f i j *ℤ entry v (pos 1) j b)

unfoldable pub across : ℕ → (ℕ → ℕ → ℤ) → ℤ → ℕ → ℕ → ℤ
across d f u a b = sum (0 ⋯ (d - b)) (λ i. f i b *ℤ entry u (pos 1) i a)

-- the even rule at (a,b): mode 0, a and b both even
abbrev pub even_pair : Mode → ℕ → ℕ → Bool
even_pair affine a b = eqb (a % 2) 0 && eqb (b % 2) 0
even_pair centred a b = false

-- P at the four corners of the square of centre (U0,V0) and half-side H: lower left, lower right, upper left, upper right
abbrev pub AtCorners : ℤ → ℤ → ℕ → (ℤ → ℤ → Type 0) → Type 0
AtCorners U0 V0 H P = P (U0 -ℤ pos H) (V0 -ℤ pos H) × P (U0 +ℤ pos H) (V0 -ℤ pos H) × P (U0 -ℤ pos H) (V0 +ℤ pos H) × P (U0 +ℤ pos H) (V0 +ℤ pos H)

-- what f(i,j) gives to the place (a,b) of its local form about (u, v) with the half-side h: f(i,j) C(i,a) C(j,b) u^(i-a) v^(j-b) h^(a+b)
abbrev pub moved_term : (ℕ → ℕ → ℤ) → ℤ → ℤ → ℤ → ℕ → ℕ → ℕ → ℕ → ℤ
moved_term f u v h a b i j = f i j *ℤ pos (choose i a) *ℤ pos (choose j b) *ℤ pow u (i - a) *ℤ pow v (j - b) *ℤ pow h (a + b)

-- the local form of a table f(i,j), i + j ≤ d: the sum over i ≥ a, j ≥ b of these
unfoldable pub moved : ℕ → (ℕ → ℕ → ℤ) → ℤ → ℤ → ℤ → ℕ → ℕ → ℤ
moved d f u v h a b = sum (a ⋯ d) (λ i. sum (b ⋯ (d - i)) (λ j. moved_term f u v h a b i j))
