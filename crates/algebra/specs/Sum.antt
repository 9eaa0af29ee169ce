-- Finite sums, and the lists of whole numbers that they run over.
use Rattle.std.specs.Prelude.{List, [], ◌∷◌, ℕ, zero, suc, ◌+◌, ◌-◌, ℤ, pos, ◌+ℤ◌}

-- the sum of f x over the members x of a list
unfoldable pub sum {ℓ} : {A : Type ℓ} → List A → (A → ℤ) → ℤ
sum [] f = pos 0
sum (x ∷ xs) f = f x +ℤ sum xs f

-- the same for natural numbers
unfoldable pub sumℕ {ℓ} : {A : Type ℓ} → List A → (A → ℕ) → ℕ
sumℕ [] f = 0
sumℕ (x ∷ xs) f = f x + sumℕ xs f

-- n numbers from a on: a, a + 1, .., a + n - 1
unfoldable pub run : ℕ → ℕ → List ℕ
run a zero = []
run a (suc n) = a ∷ run (suc a) n

-- the numbers from a on that are below n: what a loop from a has passed when its counter is n
unfoldable pub span : ℕ → ℕ → List ℕ
span a n = run a (n - a)

-- the numbers a, a + 1, .., b; none where b is below a
infix 68 ◌⋯◌
unfoldable pub ◌⋯◌ : ℕ → ℕ → List ℕ
a ⋯ b = span a (suc b)
