-- Arithmetic with a ceiling C: min n C is n, or C where n is C or more. Sums and products under the ceiling come from those of their parts under it.
use mathlib.Core.Path.{◌≡◌, ◌∙◌, ap}
use Prim.Native.Nat.{ℕ, zero, suc, ◌+◌, ◌*◌, ◌≤◌, min}
use native.Mathlib.Nat as Nat
use native.Mathlib.Decide.{dec_le}
use native.Mathlib.Omega.{arith}

module _ (C : ℕ) where
  -- a sum, and a product, of numbers under the ceiling
  pub ceil_+ : (a b : ℕ) → min (min a C + min b C) C ≡ min (a + b) C
  ceil_+ a b = omega arith

  -- one factor under the ceiling
  past : {a : ℕ} → C ≤ a → (b : ℕ) → min (C * b) C ≡ min (a * b) C
  past {a} h zero = rw (Nat.mul-zero C, Nat.mul-zero a)
  past {a} h (suc b) = omega arith

  one_factor : (a b : ℕ) → min (min a C * b) C ≡ min (a * b) C
  one_factor a b = elim (dec_le a C) [
    | yes l ↦ rw (Nat.min-eq_left l)
    | no l ↦ let h : C ≤ a = omega arith in rw (Nat.min-eq_right h) (past h b)
  ]

  pub ceil_* : (a b : ℕ) → min (min a C * min b C) C ≡ min (a * b) C
  ceil_* a b = one_factor a (min b C) ∙ ap (λ x. min x C) (Nat.mul_comm a (min b C)) ∙ one_factor b a ∙ ap (λ x. min x C) (Nat.mul_comm b a)

  -- the ceiling is met by the numbers from C on
  pub min_met : (n : ℕ) → min n C ≡ C → C ≤ n
  min_met n h = omega arith
