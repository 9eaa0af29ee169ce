-- The larger and the smaller of two integers, and the largest of many natural numbers.
use Rattle.std.specs.Prelude.{cond, List, [], ◌∷◌, ℕ, max, ℤ}
use Rattle.std.specs.Int.Signed.{lt_z}

unfoldable pub maxℤ : ℤ → ℤ → ℤ
maxℤ a b = cond (lt_z a b) b a

unfoldable pub minℤ : ℤ → ℤ → ℤ
minℤ a b = cond (lt_z a b) a b

-- the largest f x over the members x of a list, 0 where there is none
unfoldable pub largest {ℓ} : {A : Type ℓ} → List A → (A → ℕ) → ℕ
largest [] f = 0
largest (x ∷ xs) f = max (f x) (largest xs f)
