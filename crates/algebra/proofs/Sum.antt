-- The laws of finite sums: linearity, order, the triangle inequality, joined lists, and the exchange of two sums.
use mathlib.Core.Path.{◌≡◌, refl, sym, ◌∙◌, ap, ap₂}
use mathlib.Core.List.{List, [], ◌∷◌, ◌++◌, map, flat_map, Memᴰ}
use Prim.Native.Nat.{ℕ, ◌+◌, ◌*◌, ◌≤◌}
use native.Mathlib.Nat as Nat
use lib.IntN.{ℤ, pos, ◌+ℤ◌, ◌*ℤ◌, neg_ℤ, nat_abs, neg_ℤ-+ℤ, +ℤ_assoc, +ℤ_idl, *ℤ-zero, zero-*ℤ}
use lib.Signed.{◌≤ℤ◌, ≤ℤ_refl}
use Rattle.algebra.specs.Sum.{sum, sumℕ}
use Rattle.algebra.proofs.Integer.{+ℤ_medial, *ℤ-+ℤ, +ℤ-*ℤ}
use Rattle.algebra.proofs.Order.{+ℤ_mono}
use Rattle.algebra.proofs.Absolute.{nat_abs-+ℤ}

-- ---- sums of integers
module _ {ℓ} {A : Type ℓ} where
  -- the terms may be rewritten at the members
  pub sum_cong : (xs : List A) {f g : A → ℤ} → ((x : A) → Memᴰ x xs → f x ≡ g x) → sum xs f ≡ sum xs g
  unfolding sum
  sum_cong [] h = refl
  sum_cong (x ∷ xs) h = ap₂ ◌+ℤ◌ (h x (Memᴰ.head refl)) (sum_cong xs (λ y m. h y (Memᴰ.tail m)))

  pub sum_zero : (xs : List A) → sum xs (λ x. pos 0) ≡ pos 0
  unfolding sum
  sum_zero [] = refl
  sum_zero (x ∷ xs) = rw (sum_zero xs)

  pub sum-+ : (xs : List A) (f g : A → ℤ) → sum xs (λ x. f x +ℤ g x) ≡ sum xs f +ℤ sum xs g
  unfolding sum
  sum-+ [] f g = refl
  sum-+ (x ∷ xs) f g = rw (sum-+ xs f g) (+ℤ_medial (f x) (g x) (sum xs f) (sum xs g))

  pub *ℤ-sum : (c : ℤ) (xs : List A) (f : A → ℤ) → c *ℤ sum xs f ≡ sum xs (λ x. c *ℤ f x)
  unfolding sum
  *ℤ-sum c [] f = *ℤ-zero c
  *ℤ-sum c (x ∷ xs) f = rw (*ℤ-+ℤ, *ℤ-sum c xs f)

  pub sum-*ℤ : (xs : List A) (f : A → ℤ) (c : ℤ) → sum xs f *ℤ c ≡ sum xs (λ x. f x *ℤ c)
  unfolding sum
  sum-*ℤ [] f c = zero-*ℤ c
  sum-*ℤ (x ∷ xs) f c = rw (+ℤ-*ℤ, sum-*ℤ xs f c)

  pub neg_ℤ_sum : (xs : List A) (f : A → ℤ) → neg_ℤ (sum xs f) ≡ sum xs (λ x. neg_ℤ (f x))
  unfolding sum
  neg_ℤ_sum [] f = refl
  neg_ℤ_sum (x ∷ xs) f = rw (neg_ℤ-+ℤ, neg_ℤ_sum xs f)

  pub sum_mono : (xs : List A) {f g : A → ℤ} → ((x : A) → Memᴰ x xs → f x ≤ℤ g x) → sum xs f ≤ℤ sum xs g
  unfolding sum
  sum_mono [] h = ≤ℤ_refl (pos 0)
  sum_mono (x ∷ xs) h = +ℤ_mono (h x (Memᴰ.head refl)) (sum_mono xs (λ y m. h y (Memᴰ.tail m)))

  pub sum-++ : (xs ys : List A) (f : A → ℤ) → sum (xs ++ ys) f ≡ sum xs f +ℤ sum ys f
  unfolding sum
  sum-++ [] ys f = sym (+ℤ_idl (sum ys f))
  sum-++ (x ∷ xs) ys f = rw (sum-++ xs ys f) (sym (+ℤ_assoc (f x) (sum xs f) (sum ys f)))

module _ {ℓ κ} {A : Type ℓ} {B : Type κ} where
  pub sum_map : (h : A → B) (xs : List A) (f : B → ℤ) → sum (map h xs) f ≡ sum xs (λ x. f (h x))
  unfolding sum
  sum_map h [] f = refl
  sum_map h (x ∷ xs) f = rw (sum_map h xs f)

  pub sum_flat_map : (h : A → List B) (xs : List A) (f : B → ℤ) → sum (flat_map h xs) f ≡ sum xs (λ x. sum (h x) f)
  unfolding sum flat_map
  sum_flat_map h [] f = refl
  sum_flat_map h (x ∷ xs) f = rw (sum-++ (h x) (flat_map h xs) f, sum_flat_map h xs f)

  pub sum_swap : (xs : List A) (ys : List B) (f : A → B → ℤ) → sum xs (λ x. sum ys (λ y. f x y)) ≡ sum ys (λ y. sum xs (λ x. f x y))
  unfolding sum
  sum_swap [] ys f = sym (sum_zero ys)
  sum_swap (x ∷ xs) ys f = rw (sum_swap xs ys f) (sym (sum-+ ys (f x) (λ y. sum xs (λ x. f x y))))

-- ---- sums of natural numbers: their equations are those of the integers
module _ {ℓ} {A : Type ℓ} where
  pub pos_sumℕ : (xs : List A) (f : A → ℕ) → pos (sumℕ xs f) ≡ sum xs (λ x. pos (f x))
  unfolding sum sumℕ
  pos_sumℕ [] f = refl
  pos_sumℕ (x ∷ xs) f = ap (λ s. pos (f x) +ℤ s) (pos_sumℕ xs f)

  pub sumℕ_cong : (xs : List A) {f g : A → ℕ} → ((x : A) → Memᴰ x xs → f x ≡ g x) → sumℕ xs f ≡ sumℕ xs g
  sumℕ_cong xs {f} {g} h = ap nat_abs (pos_sumℕ xs f ∙ sum_cong xs (λ x m. ap pos (h x m)) ∙ sym (pos_sumℕ xs g))

  pub sumℕ-++ : (xs ys : List A) (f : A → ℕ) → sumℕ (xs ++ ys) f ≡ sumℕ xs f + sumℕ ys f
  sumℕ-++ xs ys f = ap nat_abs (pos_sumℕ (xs ++ ys) f ∙ sum-++ xs ys (λ x. pos (f x)) ∙ sym (ap₂ ◌+ℤ◌ (pos_sumℕ xs f) (pos_sumℕ ys f)))

  pub sumℕ-+ : (xs : List A) (f g : A → ℕ) → sumℕ xs (λ x. f x + g x) ≡ sumℕ xs f + sumℕ xs g
  sumℕ-+ xs f g = ap nat_abs (pos_sumℕ xs (λ x. f x + g x) ∙ sum-+ xs (λ x. pos (f x)) (λ x. pos (g x)) ∙ sym (ap₂ ◌+ℤ◌ (pos_sumℕ xs f) (pos_sumℕ xs g)))

  -- a sum of zeros
  pub sumℕ_zero : (xs : List A) {f : A → ℕ} → ((x : A) → Memᴰ x xs → f x ≡ 0) → sumℕ xs f ≡ 0
  sumℕ_zero xs h = sumℕ_cong xs h ∙ ap nat_abs (pos_sumℕ xs (λ x. 0) ∙ sum_zero xs)

  pub *-sumℕ : (c : ℕ) (xs : List A) (f : A → ℕ) → c * sumℕ xs f ≡ sumℕ xs (λ x. c * f x)
  *-sumℕ c xs f = ap nat_abs (ap (λ x. pos c *ℤ x) (pos_sumℕ xs f) ∙ *ℤ-sum (pos c) xs (λ x. pos (f x)) ∙ sym (pos_sumℕ xs (λ x. c * f x)))

  pub sumℕ_mono : (xs : List A) {f g : A → ℕ} → ((x : A) → Memᴰ x xs → f x ≤ g x) → sumℕ xs f ≤ sumℕ xs g
  unfolding sumℕ
  sumℕ_mono [] h = Nat.le_refl 0
  sumℕ_mono (x ∷ xs) h = Nat.add-le-add (h x (Memᴰ.head refl)) (sumℕ_mono xs (λ y m. h y (Memᴰ.tail m)))

  -- one term, and the terms of a part of the list
  pub sumℕ_member : (f : A → ℕ) {x : A} {xs : List A} → Memᴰ x xs → f x ≤ sumℕ xs f
  unfolding sumℕ
  sumℕ_member f (Memᴰ.head {xs = xs} e) = rw e (Nat.le-add_right _ (sumℕ xs f))
  sumℕ_member f (Memᴰ.tail {x = y} m) = Nat.le_trans (sumℕ_member f m) (Nat.le-add_left _ (f y))

  pub sumℕ_part : (before xs after : List A) (f : A → ℕ) → sumℕ xs f ≤ sumℕ (before ++ (xs ++ after)) f
  sumℕ_part before xs after f = rw (sumℕ-++ before, sumℕ-++ xs) (Nat.le_trans (Nat.le-add_right (sumℕ xs f) (sumℕ after f)) (Nat.le-add_left _ (sumℕ before f)))

  -- the triangle inequality, also of a part of a list, and with a bound for each term
  pub nat_abs_sum : (xs : List A) (f : A → ℤ) → nat_abs (sum xs f) ≤ sumℕ xs (λ x. nat_abs (f x))
  unfolding sum sumℕ
  nat_abs_sum [] f = Nat.le_refl 0
  nat_abs_sum (x ∷ xs) f = Nat.le_trans (nat_abs-+ℤ (f x) (sum xs f)) (Nat.add-le-add (Nat.le_refl (nat_abs (f x))) (nat_abs_sum xs f))

  pub nat_abs_sum_part : (before xs after : List A) (f : A → ℤ) → nat_abs (sum xs f) ≤ sumℕ (before ++ (xs ++ after)) (λ x. nat_abs (f x))
  nat_abs_sum_part before xs after f = Nat.le_trans (nat_abs_sum xs f) (sumℕ_part before xs after (λ x. nat_abs (f x)))

  pub nat_abs_sum_le : (xs : List A) (f : A → ℤ) {g : A → ℕ} → ((x : A) → Memᴰ x xs → nat_abs (f x) ≤ g x) → nat_abs (sum xs f) ≤ sumℕ xs g
  nat_abs_sum_le xs f h = Nat.le_trans (nat_abs_sum xs f) (sumℕ_mono xs h)

module _ {ℓ κ} {A : Type ℓ} {B : Type κ} where
  pub sumℕ_swap : (xs : List A) (ys : List B) (f : A → B → ℕ) → sumℕ xs (λ x. sumℕ ys (λ y. f x y)) ≡ sumℕ ys (λ y. sumℕ xs (λ x. f x y))
  sumℕ_swap xs ys f =
      let e : pos (sumℕ xs (λ x. sumℕ ys (λ y. f x y))) ≡ pos (sumℕ ys (λ y. sumℕ xs (λ x. f x y))) = simp pos_sumℕ (sum_swap xs ys (λ x y. pos (f x y))) in
      ap nat_abs e
