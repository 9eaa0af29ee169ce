-- Exponent vectors: a list with one exponent for each variable. In the plane (i,j) is the vector i ∷ j ∷ [].
use Rattle.std.specs.Prelude.{Bool, true, ◌&&◌, ℕ, zero, suc, ◌+◌, ◌*◌, ◌-◌, ◌%◌, eqb}
use mathlib.Core.List.{List, [], ◌∷◌, map, flat_map}
use Rattle.algebra.specs.Sum.{◌⋯◌}
use Rattle.algebra.specs.Binomial.{choose}

-- |e|, the sum of the exponents
unfoldable pub total : List ℕ → ℕ
total [] = 0
total (i ∷ e) = i + total e

-- the vectors of n exponents with |e| at most d, in order: the first exponent is 0..d, and within it the others likewise, up to what it leaves of d
unfoldable pub vectors : ℕ → ℕ → List (List ℕ)
vectors zero d = [] ∷ []
vectors (suc n) d = flat_map (λ i. map (λ e. i ∷ e) (vectors n (d - i))) (0 ⋯ d)

-- C(e,a), the product of the binomial coefficients, of two vectors of one length: zero unless a is at most e at each variable
unfoldable pub chooses : List ℕ → List ℕ → ℕ
chooses [] a = 1
chooses (i ∷ e) [] = 1
chooses (i ∷ e) (k ∷ a) = choose i k * chooses e a

-- e - a, at each variable, where a is at most e (cut off at zero elsewhere, where C(e,a) is zero)
infixl 6 ◌∸◌
unfoldable pub ◌∸◌ : List ℕ → List ℕ → List ℕ
[] ∸ a = []
(i ∷ e) ∸ [] = i ∷ e
(i ∷ e) ∸ (k ∷ a) = (i - k) ∷ (e ∸ a)

-- every exponent is even (zero is even)
unfoldable pub all_even : List ℕ → Bool
all_even [] = true
all_even (i ∷ a) = eqb (i % 2) 0 && all_even a
