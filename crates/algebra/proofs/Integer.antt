-- ℤ, the kit's `lib.IntN`, is a commutative ring. The laws of the product that the kit lacks are proved by steps of one from zero.
-- A name reads as its left side does: `+ℤ-*ℤ` is of (a + b) * c, `*ℤ-+ℤ` of a * (b + c).
use mathlib.Core.Path.{◌≡◌, sym, ◌∙◌, ap}
use Prim.Native.Nat.{zero, suc}
use lib.IntN.{ℤ, pos, negsuc, suc_ℤ, pred_ℤ, ◌+ℤ◌, ◌-ℤ◌, ◌*ℤ◌, -ℤ-+ℤ_cancel, neg_ℤ, one, +ℤ_comm, +ℤ_assoc, +ℤ_idl, +ℤ_invl, +ℤ_invr, suc_ℤ-+ℤ, pred_ℤ-+ℤ, suc_ℤ-*ℤ, pred_ℤ-*ℤ, zero-*ℤ, *ℤ-one, *ℤ_comm}

-- what holds of zero, and at k + 1 and k - 1 wherever it holds at k, holds of every integer
by_steps : (P : ℤ → Type 0) → P (pos zero) → ((k : ℤ) → P k → P (suc_ℤ k)) → ((k : ℤ) → P k → P (pred_ℤ k)) → (k : ℤ) → P k
by_steps P z s p (pos zero) = z
by_steps P z s p (pos (suc n)) = s (pos n) (by_steps P z s p (pos n))
by_steps P z s p (negsuc zero) = p (pos zero) z
by_steps P z s p (negsuc (suc n)) = p (negsuc n) (by_steps P z s p (negsuc n))

-- ---- sums
pub +ℤ_right_comm : (a b c : ℤ) → a +ℤ b +ℤ c ≡ a +ℤ c +ℤ b
+ℤ_right_comm a b c = rw (+ℤ_assoc a b c, +ℤ_comm b c) (sym (+ℤ_assoc a c b))

pub +ℤ_medial : (a b c d : ℤ) → (a +ℤ b) +ℤ (c +ℤ d) ≡ (a +ℤ c) +ℤ (b +ℤ d)
+ℤ_medial a b c d = rw (← (+ℤ_assoc (a +ℤ b) c d), +ℤ_right_comm a b c) (+ℤ_assoc (a +ℤ c) b d)

pub +ℤ_cancel_l : (a : ℤ) {b c : ℤ} → a +ℤ b ≡ a +ℤ c → b ≡ c
+ℤ_cancel_l a {b} {c} e = sym (back b) ∙ ap (λ x. neg_ℤ a +ℤ x) e ∙ back c
  where
    back : (x : ℤ) → neg_ℤ a +ℤ (a +ℤ x) ≡ x
    back x = rw (← (+ℤ_assoc (neg_ℤ a) a x), +ℤ_invl a) (+ℤ_idl x)

-- an equation follows from one in hand with the same difference of its sides: `≡_by e (ring ..)`
pub ≡_by : {a b c d : ℤ} → c ≡ d → a -ℤ b ≡ c -ℤ d → a ≡ b
≡_by {a} {b} {c} {d} e f = sym (-ℤ-+ℤ_cancel a b) ∙ rw (f, e, +ℤ_invr d) (+ℤ_idl b)

-- ---- products
pub *ℤ_idr : (a : ℤ) → a *ℤ pos 1 ≡ a
unfolding one
*ℤ_idr a = *ℤ-one a

pub *ℤ_idl : (a : ℤ) → pos 1 *ℤ a ≡ a
*ℤ_idl a = *ℤ_comm (pos 1) a ∙ *ℤ_idr a

pub +ℤ-*ℤ : (a b c : ℤ) → (a +ℤ b) *ℤ c ≡ a *ℤ c +ℤ b *ℤ c
+ℤ-*ℤ a b c = by_steps (λ a. (a +ℤ b) *ℤ c ≡ a *ℤ c +ℤ b *ℤ c)
    (simp (+ℤ_idl, zero-*ℤ))
    (λ k h. rw (suc_ℤ-+ℤ k b, suc_ℤ-*ℤ (k +ℤ b) c, suc_ℤ-*ℤ k c, h) (+ℤ_right_comm (k *ℤ c) (b *ℤ c) c))
    (λ k h. rw (pred_ℤ-+ℤ k b, pred_ℤ-*ℤ (k +ℤ b) c, pred_ℤ-*ℤ k c, h) (+ℤ_right_comm (k *ℤ c) (b *ℤ c) (neg_ℤ c)))
    a

pub *ℤ-+ℤ : (a b c : ℤ) → a *ℤ (b +ℤ c) ≡ a *ℤ b +ℤ a *ℤ c
*ℤ-+ℤ a b c = rw (*ℤ_comm a (b +ℤ c), *ℤ_comm a b, *ℤ_comm a c) (+ℤ-*ℤ b c a)

pub neg_ℤ_*ℤ : (a b : ℤ) → neg_ℤ a *ℤ b ≡ neg_ℤ (a *ℤ b)
neg_ℤ_*ℤ a b = +ℤ_cancel_l (a *ℤ b) (rw (← (+ℤ-*ℤ a (neg_ℤ a) b), +ℤ_invr a, +ℤ_invr (a *ℤ b)) (zero-*ℤ b))

pub *ℤ_neg_ℤ : (a b : ℤ) → a *ℤ neg_ℤ b ≡ neg_ℤ (a *ℤ b)
*ℤ_neg_ℤ a b = rw (*ℤ_comm a (neg_ℤ b), *ℤ_comm a b) (neg_ℤ_*ℤ b a)

pub *ℤ_assoc : (a b c : ℤ) → a *ℤ b *ℤ c ≡ a *ℤ (b *ℤ c)
*ℤ_assoc a b c = by_steps (λ a. a *ℤ b *ℤ c ≡ a *ℤ (b *ℤ c))
    (simp zero-*ℤ)
    (λ k h. simp (suc_ℤ-*ℤ, +ℤ-*ℤ, h))
    (λ k h. simp (pred_ℤ-*ℤ, +ℤ-*ℤ, neg_ℤ_*ℤ, h))
    a

pub *ℤ_left_comm : (a b c : ℤ) → a *ℤ (b *ℤ c) ≡ b *ℤ (a *ℤ c)
*ℤ_left_comm a b c = rw (← (*ℤ_assoc a b c), *ℤ_comm a b) (*ℤ_assoc b a c)
