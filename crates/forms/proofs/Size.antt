-- Size: every number that goes into the bounds, the bend and the values is at most the weight.
-- The weight is a sum of majorants, one for each vector e: |A(e)| S^(d-|e|) (S R)^e. What is at most the majorant at each e sums to at most the weight.
use mathlib.Core.Path.{◌≡◌, sym, ◌∙◌, ap, subst}
use mathlib.Core.Logic.{◌≢◌}
use mathlib.Core.List.{List, [], ◌∷◌, ◌++◌, Memᴰ}
use Prim.Native.Nat.{ℕ, ◌+◌, ◌*◌, ◌-◌, ◌^◌, ◌≤◌}
use native.Mathlib.Nat as Nat
use native.Mathlib.Omega.{arith}
use lib.IntN.{ℤ, pos, ◌+ℤ◌, ◌-ℤ◌, ◌*ℤ◌, nat_abs}
use lib.Pow.{pow-add}
use Rattle.algebra.specs.Sum.{sum, sumℕ}
use Rattle.algebra.proofs.Integer.{*ℤ_idl, *ℤ_idr}
use Rattle.algebra.proofs.Power.{pos_pow, one_pow}
use Rattle.algebra.proofs.Absolute.{nat_abs-*ℤ, nat_abs_pow, nat_abs-+ℤ, nat_abs_zero}
use Rattle.algebra.proofs.Ring.{ring, ◌⊕◌, ◌⊖◌, ◌⊗◌, #◌, ◌≐◌}
use Rattle.algebra.proofs.Sum.{sum_cong, *ℤ-sum, pos_sumℕ, sumℕ_cong, sumℕ_mono, sumℕ_member, *-sumℕ, sumℕ_swap, nat_abs_sum, nat_abs_sum_part}
use Rattle.forms.specs.Vectors.{total, chooses, ◌∸◌}
use Rattle.forms.specs.Points.{Point, Each, powers, powersℕ}
use Rattle.forms.specs.Polynomial.{Polynomial, Index, indices, scaled, value_term, value}
use Rattle.forms.specs.Box.{InBox, Signs, corner}
use Rattle.forms.specs.LocalForm.{local_term, local}
use Rattle.forms.specs.Bounds.{Mode, low, high, lower, upper, bend}
use Rattle.forms.specs.Weight.{weight, Limited, PointLimited, majorant}
use Rattle.forms.proofs.Vectors.{vectors_fit, fit_vectors}
use Rattle.forms.proofs.Points.{nat_abs_powers, powers_equal, pos_powersℕ, powersℕ-*, powersℕ_mono}
use Rattle.forms.proofs.Shift.{shifts, powers-+}
use Rattle.forms.proofs.Bounds.{nat_abs_low, nat_abs_high, bent_le}

-- ---- the weight as a sum of majorants
-- |A(e)| S^(d-|e|) (S R)^e = S^d |A(e)| R^e
majorant_is : (F : Polynomial) (R : ℕ → ℕ) (e : List ℕ) → total e ≤ F.degree → majorant F R e ≡ F.scale ^ F.degree * (nat_abs (F.coefficient e) * powersℕ R e)
unfolding majorant scaled
majorant_is F R e h =
    let s = F.scale in let k = F.degree - total e in let a = nat_abs (F.coefficient e) in let r = powersℕ R e in let p : k + total e ≡ F.degree = omega arith in
    rw (nat_abs-*ℤ, nat_abs_pow, powersℕ-* e s R) (ap nat_abs (ring (pos a ∷ pos (s ^ k) ∷ pos (s ^ total e) ∷ pos r ∷ []) (λ a x y r. a ⊗ x ⊗ (y ⊗ r) ≐ x ⊗ y ⊗ (a ⊗ r)) tt)
    ∙ ap (λ x. x * (a * r)) (sym (pow-add s k (total e)) ∙ ap (λ x. s ^ x) p))

pub weight_majorants : (F : Polynomial) (R : ℕ → ℕ) → weight F R ≡ sumℕ (indices F) (majorant F R)
unfolding weight
weight_majorants F R = *-sumℕ (F.scale ^ F.degree) (indices F) (λ e. nat_abs (F.coefficient e) * powersℕ R e)
    ∙ sumℕ_cong (indices F) (λ e m. sym (majorant_is F R e (vectors_fit F.variables F.degree m).1))

-- ---- smaller limits make no larger weight
pub weight_mono : (F : Polynomial) (R T : ℕ → ℕ) → Each F.variables (λ v. R v ≤ T v) → weight F R ≤ weight F T
unfolding weight
weight_mono F R T h = Nat.mul-le-mul_left (F.scale ^ F.degree) (sumℕ_mono (indices F) (λ e m. Nat.mul-le-mul_left (nat_abs (F.coefficient e))
    (powersℕ_mono e R T (rw (vectors_fit F.variables F.degree m).0 h))))

-- ---- the factors of one term: |A(e)| S^(d-|e|) m, and m itself where A(e) is not zero, for any m up to (S R)^e
module _ (F : Polynomial) (R : ℕ → ℕ) (e : List ℕ) (i : Index F e) where
  pub factor_size : {m : ℕ} → m ≤ powersℕ (λ v. F.scale * R v) e → nat_abs (scaled F e) * m ≤ weight F R
  unfolding majorant
  factor_size h = rw (weight_majorants F R) (Nat.le_trans (Nat.mul-le-mul_left (nat_abs (scaled F e)) h) (sumℕ_member (majorant F R) (fit_vectors F.variables F.degree _ i)))

  pub power_size : 1 ≤ F.scale → F.coefficient e ≢ pos 0 → {m : ℕ} → m ≤ powersℕ (λ v. F.scale * R v) e → m ≤ weight F R
  unfolding scaled
  power_size s n {m} h =
      let one : 1 ≤ nat_abs (scaled F e) = rw (nat_abs-*ℤ, nat_abs_pow)
      (Nat.mul-pos (Nat.pos_of_ne-zero (λ z. n (nat_abs_zero (F.coefficient e) z))) (Nat.one-le-pow (F.degree - total e) F.scale s)) in
      Nat.le_trans (Nat.le_trans (Nat.le_of_eq (sym (Nat.one-mul m))) (Nat.mul-le-mul_right m one)) (factor_size h)

-- ---- sums on the way: where the terms are together at most the weight, so is each one, and the sum over any part of the indices
module _ (F : Polynomial) (R : ℕ → ℕ) (f : List ℕ → ℤ) (h : sumℕ (indices F) (λ e. nat_abs (f e)) ≤ weight F R) where
  pub one_size : (e : List ℕ) → Index F e → nat_abs (f e) ≤ weight F R
  one_size e i = Nat.le_trans (sumℕ_member (λ e. nat_abs (f e)) (fit_vectors F.variables F.degree _ i)) h

  pub part_size : (before part after : List (List ℕ)) → before ++ (part ++ after) ≡ indices F → nat_abs (sum part f) ≤ weight F R
  part_size before part after e = Nat.le_trans (nat_abs_sum_part before part after f) (rw e h)

  pub sum_size : nat_abs (sum (indices F) f) ≤ weight F R
  sum_size = Nat.le_trans (nat_abs_sum (indices F) f) h

-- ---- the terms of the local form
module _ (F : Polynomial) (u : Point) (H : ℕ) where
  nat_abs_term : (a e : List ℕ) → nat_abs (local_term F u H a e) ≡ nat_abs (scaled F e) * chooses e a * powersℕ (λ v. nat_abs (u v)) (e ∸ a) * H ^ total a
  nat_abs_term a e = simp (nat_abs-*ℤ, nat_abs_pow, nat_abs_powers)

  -- those of one e together, by the binomial theorem: |A(e)| S^(d-|e|) (|u| + H)^e
  terms_of : {e : List ℕ} → Memᴰ e (indices F) → sumℕ (indices F) (λ a. nat_abs (local_term F u H a e)) ≡ nat_abs (scaled F e) * powersℕ (λ v. nat_abs (u v) + H) e
  unfolding shifts
  terms_of {e} m =
      let n = F.variables in let d = F.degree in let I = indices F in let c = pos (nat_abs (scaled F e)) in let (l, s) = vectors_fit n d m in
      let w : Point = λ v. pos (nat_abs (u v)) in let r : ℕ → ℕ = λ v. nat_abs (u v) + H in
      let p : powers (λ v. pos (r v)) e ≡ sum I (λ a. shifts w e a *ℤ powers (λ v. pos H) a) = powers-+ e n d w (λ v. pos H) l s in
      let q : pos (sumℕ I (λ a. nat_abs (local_term F u H a e))) ≡ c *ℤ powers (λ v. pos (r v)) e = rw (pos_sumℕ, p, *ℤ-sum) (sum_cong I (λ a i.
      rw (nat_abs_term a e, pos_powersℕ (e ∸ a) (λ v. nat_abs (u v)), powers_equal a (pos H), pos_pow)
      (ring (c ∷ pos (chooses e a) ∷ pos (powersℕ (λ v. nat_abs (u v)) (e ∸ a)) ∷ pos (H ^ total a) ∷ []) (λ c b p h. c ⊗ b ⊗ p ⊗ h ≐ c ⊗ (b ⊗ p ⊗ h)) tt))) in
      ap nat_abs (q ∙ ap (λ x. c *ℤ x) (pos_powersℕ e r))

module _ (F : Polynomial) (u : Point) (H : ℕ) (R : ℕ → ℕ) (h : Limited F u H R) where
  -- all of them together
  pub all_terms_size : sumℕ (indices F) (λ a. sumℕ (indices F) (λ e. nat_abs (local_term F u H a e))) ≤ weight F R
  unfolding majorant
  all_terms_size = rw (sumℕ_swap (indices F) (indices F) (λ a e. nat_abs (local_term F u H a e)), weight_majorants F R) (sumℕ_mono (indices F) (λ e m.
      rw (terms_of F u H m) (Nat.mul-le-mul_left (nat_abs (scaled F e)) (powersℕ_mono e (λ v. nat_abs (u v) + H) (λ v. F.scale * R v) (rw (vectors_fit F.variables F.degree m).0 h)))))

  -- those of G(a) together, and so G(a) itself
  pub terms_size : (a : List ℕ) → Index F a → sumℕ (indices F) (λ e. nat_abs (local_term F u H a e)) ≤ weight F R
  terms_size a i = Nat.le_trans (sumℕ_member (λ a. sumℕ (indices F) (λ e. nat_abs (local_term F u H a e))) (fit_vectors F.variables F.degree _ i)) all_terms_size

  pub local_size : (a : List ℕ) → Index F a → nat_abs (local F u H a) ≤ weight F R
  unfolding local
  local_size a i = sum_size F R (local_term F u H a) (terms_size a i)

  -- the |G(a)| together, and what each gives to the bounds and to the bend
  pub local_sum_size : sumℕ (indices F) (λ a. nat_abs (local F u H a)) ≤ weight F R
  unfolding local
  local_sum_size = Nat.le_trans (sumℕ_mono (indices F) (λ a m. nat_abs_sum (indices F) (λ e. local_term F u H a e))) all_terms_size

  pub low_sum_size : (mode : Mode) → sumℕ (indices F) (λ a. nat_abs (low mode a (local F u H a))) ≤ weight F R
  low_sum_size mode = Nat.le_trans (sumℕ_mono (indices F) (λ a m. nat_abs_low mode a (local F u H a))) local_sum_size

  pub high_sum_size : (mode : Mode) → sumℕ (indices F) (λ a. nat_abs (high mode a (local F u H a))) ≤ weight F R
  high_sum_size mode = Nat.le_trans (sumℕ_mono (indices F) (λ a m. nat_abs_high mode a (local F u H a))) local_sum_size

  -- the bounds and the bend
  pub lower_size : (mode : Mode) → nat_abs (lower F mode u H) ≤ weight F R
  unfolding lower
  lower_size mode = sum_size F R (λ a. low mode a (local F u H a)) (low_sum_size mode)

  pub upper_size : (mode : Mode) → nat_abs (upper F mode u H) ≤ weight F R
  unfolding upper
  upper_size mode = sum_size F R (λ a. high mode a (local F u H a)) (high_sum_size mode)

  pub bend_size : bend F u H ≤ weight F R
  unfolding bend
  bend_size = Nat.le_trans (sumℕ_mono (indices F) (λ a m. bent_le a (local F u H a))) local_sum_size

-- ---- the terms of the value at a whole point within the limits, and the value
module _ (F : Polynomial) (x : Point) (R : ℕ → ℕ) (h : PointLimited F x R) where
  pub value_sum_size : sumℕ (indices F) (λ e. nat_abs (value_term F x 1 e)) ≤ weight F R
  unfolding majorant
  value_sum_size = rw (weight_majorants F R) (sumℕ_mono (indices F) (λ e m. rw (one_pow, *ℤ_idr, nat_abs-*ℤ, nat_abs_powers)
      (Nat.mul-le-mul_left (nat_abs (scaled F e)) (powersℕ_mono e (λ v. nat_abs (x v)) (λ v. F.scale * R v) (rw (vectors_fit F.variables F.degree m).0 h)))))

  pub value_size : nat_abs (value F x 1) ≤ weight F R
  unfolding value
  value_size = sum_size F R (value_term F x 1) value_sum_size

-- ---- such points are the whole points of the box, its corners among them
module _ (F : Polynomial) (u : Point) (H : ℕ) where
  pub box_limited : (R : ℕ → ℕ) (x : Point) → Limited F u H R → InBox F u H x 1 → PointLimited F x R
  box_limited R x h b v i =
      let near = rw (*ℤ_idl, Nat.one-mul) at (b v i) in let limit = h v i in
      let e : x v ≡ x v -ℤ u v +ℤ u v = ring (x v ∷ u v ∷ []) (λ x u. x ≐ x ⊖ u ⊕ u) tt in
      let t : nat_abs (x v -ℤ u v +ℤ u v) ≤ F.scale * R v = let s = nat_abs-+ℤ (x v -ℤ u v) (u v) in omega arith in
      subst (λ y. nat_abs y ≤ F.scale * R v) (sym e) t

  pub corner_in_box : (σ : Point) → Signs F σ → InBox F u H (corner u H σ) 1
  corner_in_box σ s v i =
      rw (ring (u v ∷ pos H ∷ σ v ∷ []) (λ u h s. u ⊕ h ⊗ s ⊖ # 1 ⊗ u ≐ h ⊗ s) tt, nat_abs-*ℤ (pos H) (σ v), s v i) (omega arith)

  pub value_in_box_size : (R : ℕ → ℕ) (x : Point) → Limited F u H R → InBox F u H x 1 → nat_abs (value F x 1) ≤ weight F R
  value_in_box_size R x h b = value_size F x R (box_limited R x h b)
