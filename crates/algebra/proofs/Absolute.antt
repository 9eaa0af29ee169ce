-- Absolute values: `nat_abs a` in ℕ, and so `pos (nat_abs a)` in ℤ.
use mathlib.Core.Path.{◌≡◌, refl, sym, ◌∙◌, ap}
use Prim.Native.Nat.{ℕ, zero, suc, ◌+◌, ◌*◌, ◌^◌, ◌≤◌}
use native.Mathlib.Nat as Nat
use native.Mathlib.Omega.{arith}
use lib.IntN.{ℤ, pos, negsuc, ◌+ℤ◌, ◌-ℤ◌, ◌*ℤ◌, neg_ℤ, nat_abs, pow, neg_ℤ-+ℤ, neg_ℤ-neg_ℤ}
use lib.Signed.{◌≤ℤ◌, le_z_yes, ≤ℤ_refl}
use Rattle.algebra.proofs.Power.{pow_zero, pow_suc}
use Rattle.algebra.proofs.Order.{≤ℤ_of_≡, ≤ℤ_trans, +ℤ_mono, neg_ℤ_mono, pos_cancel}

pub nat_abs_neg_ℤ : (a : ℤ) → nat_abs (neg_ℤ a) ≡ nat_abs a
nat_abs_neg_ℤ (pos zero) = refl
nat_abs_neg_ℤ (pos (suc n)) = refl
nat_abs_neg_ℤ (negsuc n) = refl

pub nat_abs_zero : (a : ℤ) → nat_abs a ≡ 0 → a ≡ pos 0
nat_abs_zero (pos n) e = ap pos e
nat_abs_zero (negsuc n) e = absurd (omega arith)

pub nat_abs-*ℤ : (a b : ℤ) → nat_abs (a *ℤ b) ≡ nat_abs a * nat_abs b
nat_abs-*ℤ (pos a) (pos b) = refl
nat_abs-*ℤ (pos a) (negsuc b) = nat_abs_neg_ℤ (pos (a * suc b))
nat_abs-*ℤ (negsuc a) (pos b) = nat_abs_neg_ℤ (pos (suc a * b))
nat_abs-*ℤ (negsuc a) (negsuc b) = refl

pub nat_abs_pow : (a : ℤ) (n : ℕ) → nat_abs (pow a n) ≡ nat_abs a ^ n
nat_abs_pow a zero = ap nat_abs (pow_zero a) ∙ sym (Nat.pow-zero (nat_abs a))
nat_abs_pow a (suc n) = ap nat_abs (pow_suc a n) ∙ nat_abs-*ℤ (pow a n) a ∙ ap (λ x. x * nat_abs a) (nat_abs_pow a n) ∙ sym (Nat.pow-suc (nat_abs a) n)

pub ≤ℤ-nat_abs : (a : ℤ) → a ≤ℤ pos (nat_abs a)
≤ℤ-nat_abs (pos n) = ≤ℤ_refl (pos n)
≤ℤ-nat_abs (negsuc n) = le_z_yes tt

pub -nat_abs-≤ℤ : (a : ℤ) → neg_ℤ (pos (nat_abs a)) ≤ℤ a
-nat_abs-≤ℤ a = rw (nat_abs_neg_ℤ, neg_ℤ-neg_ℤ) at (neg_ℤ_mono (≤ℤ-nat_abs (neg_ℤ a)))

pub nat_abs_bound : {a : ℤ} {n : ℕ} → neg_ℤ (pos n) ≤ℤ a → a ≤ℤ pos n → nat_abs a ≤ n
nat_abs_bound {a = pos m} h k = pos_cancel k
nat_abs_bound {a = negsuc m} {n} h k = pos_cancel (rw neg_ℤ-neg_ℤ at (neg_ℤ_mono h))

pub nat_abs-+ℤ : (a b : ℤ) → nat_abs (a +ℤ b) ≤ nat_abs a + nat_abs b
nat_abs-+ℤ a b = nat_abs_bound
    (≤ℤ_trans (≤ℤ_of_≡ (neg_ℤ-+ℤ (pos (nat_abs a)) (pos (nat_abs b)))) (+ℤ_mono (-nat_abs-≤ℤ a) (-nat_abs-≤ℤ b)))
    (+ℤ_mono (≤ℤ-nat_abs a) (≤ℤ-nat_abs b))

-- where both ends a - h and a + h are at most n, so is |a| + h
pub nat_abs_ends : (a : ℤ) (h n : ℕ) → nat_abs (a -ℤ pos h) ≤ n → nat_abs (a +ℤ pos h) ≤ n → nat_abs a + h ≤ n
nat_abs_ends (pos m) h n p q = q
nat_abs_ends (negsuc m) h n p q = rw (ap nat_abs (sym (neg_ℤ-+ℤ (pos (suc m)) (pos h))) ∙ nat_abs_neg_ℤ (pos (suc m + h))) at p
