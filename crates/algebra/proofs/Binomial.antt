-- Binomial coefficients, the powers of a sum, and the binomial theorem over ℤ.
use mathlib.Core.Path.{◌≡◌, refl, sym, ◌∙◌, ap}
use mathlib.Core.List.{[], ◌∷◌}
use Prim.Native.Nat.{ℕ, zero, suc, ◌+◌, ◌*◌, ◌-◌, ◌^◌, ◌<◌, ◌≤◌}
use native.Mathlib.Nat as Nat
use native.Mathlib.Decide.{dec_lt}
use native.Mathlib.Omega.{arith}
use lib.IntN.{ℤ, pos, ◌+ℤ◌, ◌*ℤ◌, nat_abs, pow, zero-*ℤ, *ℤ_comm, +ℤ_idr}
use Rattle.algebra.specs.Sum.{sum, sumℕ, run, ◌⋯◌}
use Rattle.algebra.specs.Binomial.{choose, entry}
use Rattle.algebra.proofs.Integer.{≡_by, *ℤ_idl, +ℤ-*ℤ, *ℤ-+ℤ, *ℤ_assoc, *ℤ_left_comm}
use Rattle.algebra.proofs.Power.{pow_zero, pow_suc, pos_pow}
use Rattle.algebra.proofs.Absolute.{nat_abs-*ℤ, nat_abs_pow}
use Rattle.algebra.proofs.Ring.{ring, ◌⊕◌, ◌⊖◌, ◌⊗◌, ◌≐◌}
use Rattle.algebra.proofs.Sum.{sum_cong, sum_zero, sum-+, *ℤ-sum, pos_sumℕ, sumℕ_member}
use Rattle.algebra.proofs.Run.{member_⋯, ⋯-run, sum_run_shift}

-- ---- C(n,k)
pub choose_zero : (n : ℕ) → choose n 0 ≡ 1
unfolding choose
choose_zero zero = refl
choose_zero (suc n) = refl

pub choose_over : (n k : ℕ) → n < k → choose n k ≡ 0
unfolding choose
choose_over n zero h = omega arith
choose_over zero (suc k) h = refl
choose_over (suc n) (suc k) h = let p = choose_over n k (omega arith) in let q = choose_over n (suc k) (omega arith) in omega arith

pub choose_≤_pow : (n k : ℕ) → choose n k ≤ 2 ^ n
unfolding choose
choose_≤_pow zero zero = Nat.le_refl 1
choose_≤_pow zero (suc k) = omega arith
choose_≤_pow (suc n) zero = let h = choose_≤_pow n zero in let e = choose_zero n in omega arith
choose_≤_pow (suc n) (suc k) = let h = choose_≤_pow n k in let i = choose_≤_pow n (suc k) in omega arith

-- ---- the coefficient of t^k in (x + t)^n
unfoldable pub shift : ℤ → ℕ → ℕ → ℤ
shift x n k = pos (choose n k) *ℤ pow x (n - k)

-- one factor x more, where the coefficient is not zero
one_factor : (x : ℤ) (n k : ℕ) → pos (choose n (suc k)) *ℤ pow x (n - k) ≡ pos (choose n (suc k)) *ℤ (pow x (n - suc k) *ℤ x)
one_factor x n k = elim (dec_lt k n) [
  | yes h ↦ ap (λ y. pos (choose n (suc k)) *ℤ y) (ap (pow x) (omega arith) ∙ pow_suc x (n - suc k))
  | no h ↦ simp (choose_over n (suc k) (omega arith), zero-*ℤ)
]

module _ (x : ℤ) where
  pub shift_zero : (n : ℕ) → shift x n 0 ≡ pow x n
  unfolding shift
  shift_zero n = simp (choose_zero, Nat.sub-zero, *ℤ_idl)

  pub shift_over : (n k : ℕ) → n < k → shift x n k ≡ pos 0
  unfolding shift
  shift_over n k h = rw (choose_over n k) (zero-*ℤ (pow x (n - k)))

  -- Pascal's rule: (x + t)^(n+1) = (x + t) (x + t)^n
  pub shift_suc_zero : (n : ℕ) → shift x (suc n) 0 ≡ x *ℤ shift x n 0
  shift_suc_zero n = simp (shift_zero, pow_suc, *ℤ_comm)

  pub shift_suc : (n k : ℕ) → shift x (suc n) (suc k) ≡ shift x n k +ℤ x *ℤ shift x n (suc k)
  unfolding shift choose
  shift_suc n k = rw (Nat.suc-sub-suc n k) (≡_by (one_factor x n k)
      (ring (x ∷ pos (choose n k) ∷ pos (choose n (suc k)) ∷ pow x (n - k) ∷ pow x (n - suc k) ∷ [])
      (λ x c d p q. (c ⊕ d) ⊗ p ⊖ (c ⊗ p ⊕ x ⊗ (d ⊗ q)) ≐ d ⊗ p ⊖ d ⊗ (q ⊗ x)) tt))

-- ---- to shift by x + y is to shift by x and then by y, with the sum over k < N for any N above n
module _ (x y : ℤ) where
  shift_step : (n N j : ℕ) → sum (run 0 (suc N)) (λ k. shift x (suc n) k *ℤ shift y k j)
      ≡ sum (run 0 N) (λ k. shift x n k *ℤ shift y (suc k) j) +ℤ x *ℤ sum (run 0 (suc N)) (λ k. shift x n k *ℤ shift y k j)
  shift_step n N j = simp (sum_run_shift, shift_suc_zero x, shift_suc x, +ℤ-*ℤ, *ℤ-+ℤ, sum-+, *ℤ_assoc, ← *ℤ-sum)
      (ring ((x *ℤ (shift x n 0 *ℤ shift y 0 j)) ∷ sum (run 0 N) (λ k. shift x n k *ℤ shift y (suc k) j) ∷ (x *ℤ sum (run 0 N) (λ k. shift x n (suc k) *ℤ shift y (suc k) j)) ∷ [])
      (λ a b c. a ⊕ (b ⊕ c) ≐ b ⊕ (a ⊕ c)) tt)

  pub shift_+ : (n N j : ℕ) → n < N → shift (x +ℤ y) n j ≡ sum (run 0 N) (λ k. shift x n k *ℤ shift y k j)
  shift_+ n zero j h = absurd (Nat.not-suc-le-zero h)
  shift_+ zero (suc N) j h = simp (sum_run_shift, shift_zero x, pow_zero, shift_over x, Nat.zero-lt-suc, zero-*ℤ, sum_zero, +ℤ_idr, *ℤ_idl) (unfold shift in simp (Nat.zero-sub, pow_zero))
  shift_+ (suc n) (suc N) zero h =
      simp (shift_step n N, shift_suc_zero, *ℤ_left_comm, ← *ℤ-sum, ← (shift_+ n N 0 (omega arith)), ← (shift_+ n (suc N) 0 (omega arith)))
      (ring (x ∷ y ∷ shift (x +ℤ y) n 0 ∷ []) (λ x y s. (x ⊕ y) ⊗ s ≐ y ⊗ s ⊕ x ⊗ s) tt)
  shift_+ (suc n) (suc N) (suc j) h =
      simp (shift_step n N, shift_suc, *ℤ-+ℤ, sum-+, *ℤ_left_comm, ← *ℤ-sum, ← (shift_+ n N j (omega arith)), ← (shift_+ n N (suc j) (omega arith)), ← (shift_+ n (suc N) (suc j) (omega arith)))
      (ring (x ∷ y ∷ shift (x +ℤ y) n j ∷ shift (x +ℤ y) n (suc j) ∷ []) (λ x y r s. r ⊕ (x ⊕ y) ⊗ s ≐ r ⊕ y ⊗ s ⊕ x ⊗ s) tt)

-- ---- the binomial theorem: (a + b)^n is the sum of C(n,k) a^(n-k) b^k over k = 0..n
pub binomial : (a b : ℤ) (n : ℕ) → pow (a +ℤ b) n ≡ sum (0 ⋯ n) (λ k. pos (choose n k) *ℤ pow a (n - k) *ℤ pow b k)
unfolding shift
binomial a b n = sym (shift_zero (a +ℤ b) n) ∙ shift_+ a b n (suc n) 0 (Nat.le_refl (suc n))
    ∙ sum_cong (run 0 (suc n)) (λ k m. ap (λ x. shift a n k *ℤ x) (shift_zero b k)) ∙ ap (λ l. sum l (λ k. shift a n k *ℤ pow b k)) (sym (⋯-run n))

-- the same of natural numbers, and the size of one term
pub binomialℕ : (a b n : ℕ) → (a + b) ^ n ≡ sumℕ (0 ⋯ n) (λ k. choose n k * a ^ (n - k) * b ^ k)
binomialℕ a b n =
    let e : pos ((a + b) ^ n) ≡ pos (sumℕ (0 ⋯ n) (λ k. choose n k * a ^ (n - k) * b ^ k)) = rw pos_sumℕ (simp pos_pow at (binomial (pos a) (pos b) n)) in
    ap nat_abs e

binomial_term_size : (a b n k : ℕ) → choose n k * a ^ (n - k) * b ^ k ≤ (a + b) ^ n
binomial_term_size a b n k = elim (dec_lt n k) [
  | yes l ↦ rw (choose_over n k l, Nat.zero-mul, Nat.zero-mul) (omega arith)
  | no l ↦ rw (binomialℕ a b n) (sumℕ_member (λ k. choose n k * a ^ (n - k) * b ^ k) (member_⋯ 0 n k (omega arith) (omega arith)))
]

-- ---- the tables of C(n,k) u^(n-k) h^k
module _ (u h : ℤ) where
  entry_shift : (n k : ℕ) → entry u h n k ≡ shift u n k *ℤ pow h k
  unfolding entry shift
  entry_shift n k = refl

  pub entry_over : (n k : ℕ) → n < k → entry u h n k ≡ pos 0
  entry_over n k l = rw (entry_shift, shift_over u n k l) (zero-*ℤ (pow h k))

  -- row by row, by Pascal's rule
  pub entry_first : entry u h 0 0 ≡ pos 1
  entry_first = simp (entry_shift, shift_zero, pow_zero)

  pub entry_suc_zero : (n : ℕ) → entry u h (suc n) 0 ≡ u *ℤ entry u h n 0
  entry_suc_zero n = simp (entry_shift, shift_suc_zero, *ℤ_assoc)

  pub entry_suc : (n k : ℕ) → entry u h (suc n) (suc k) ≡ h *ℤ entry u h n k +ℤ u *ℤ entry u h n (suc k)
  entry_suc n k = rw (entry_shift (suc n) (suc k), entry_shift n k, entry_shift n (suc k), shift_suc u n k, pow_suc h k)
      (ring (u ∷ h ∷ shift u n k ∷ shift u n (suc k) ∷ pow h k ∷ []) (λ u h s t p. (s ⊕ u ⊗ t) ⊗ (p ⊗ h) ≐ h ⊗ (s ⊗ p) ⊕ u ⊗ (t ⊗ (p ⊗ h))) tt)

  -- each entry is at most (|u| + |h|)^n
  pub entry_size : (n k : ℕ) → nat_abs (entry u h n k) ≤ (nat_abs u + nat_abs h) ^ n
  unfolding entry
  entry_size n k = simp (nat_abs-*ℤ, nat_abs_pow) (binomial_term_size (nat_abs u) (nat_abs h) n k)
