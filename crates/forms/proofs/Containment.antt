-- Containment: at every point of the closed box, with fractional coordinates of any size, the value lies between the bounds.
use mathlib.Core.Path.{◌≡◌, sym, ◌∙◌, ap, fun_ext}
use mathlib.Core.Logic.{inl, inr}
use mathlib.Core.List.{List, [], ◌∷◌, Memᴰ}
use Prim.Native.Nat.{ℕ, ◌*◌, ◌-◌, ◌^◌, ◌≤◌}
use native.Mathlib.Nat as Nat
use native.Mathlib.Omega.{arith}
use lib.Dec.{T}
use lib.IntN.{ℤ, pos, ◌+ℤ◌, ◌-ℤ◌, ◌*ℤ◌, nat_abs, pow, *ℤ-zero}
use lib.Pow.{pow-add}
use lib.Signed.{◌≤ℤ◌, ◌<ℤ◌, <ℤ-≤ℤ_trans}
use Rattle.algebra.proofs.Integer.{*ℤ_assoc, *ℤ_idl}
use Rattle.algebra.proofs.Power.{*_pow, pos_pow}
use Rattle.algebra.proofs.Order.{≤ℤ_by, ≤ℤ_trans, ≤ℤ_of_≡, ≤ℤ_sub, ≤ℤ-total, ≤ℤ_<ℤ_trans, neg_ℤ_mono, pos_mono, pos_mono_<, nonneg, *ℤ_mono, *ℤ_mono_<, *ℤ_nonneg, pow_nonneg, pow_positive}
use Rattle.algebra.proofs.Absolute.{nat_abs-*ℤ, nat_abs_pow, ≤ℤ-nat_abs, -nat_abs-≤ℤ}
use Rattle.algebra.proofs.MinMax.{minℤ-≤ℤ}
use Rattle.algebra.proofs.Ring.{ring, ◌⊕◌, ◌⊖◌, ◌⊗◌, ⊝◌, #◌, ◌≐◌}
use Rattle.algebra.proofs.Sum.{sum_mono, *ℤ-sum}
use Rattle.forms.specs.Vectors.{total, all_even}
use Rattle.forms.specs.Points.{Point, powers}
use Rattle.forms.specs.Polynomial.{Polynomial, indices, value}
use Rattle.forms.specs.Box.{InBox}
use Rattle.forms.specs.LocalForm.{local}
use Rattle.forms.specs.Bounds.{Mode, low, lower, upper}
use Rattle.forms.proofs.Vectors.{vectors_fit}
use Rattle.forms.proofs.Points.{powers_zero, powers_size, powers_even}
use Rattle.forms.proofs.Taylor.{taylor, local_taylor, taylor_formula}
use Rattle.forms.proofs.Bounds.{low_cases, opposite, value_opposite, upper_lower}

-- ---- one coefficient: c low(g b) ≤ g t, where |t| ≤ c b
low-≤ℤ : (mode : Mode) (a : List ℕ) (g t : ℤ) (c b : ℕ) → (total a ≡ 0 → t ≡ pos (c * b)) → (T (all_even a) → pos 0 ≤ℤ t) → nat_abs t ≤ c * b →
    (pos c *ℤ low mode a (g *ℤ pos b)) ≤ℤ (g *ℤ t)
low-≤ℤ mode a g t c b at_none at-even h =
    let small : nat_abs (g *ℤ t) ≤ nat_abs g * (c * b) = rw nat_abs-*ℤ (Nat.mul-le-mul_left (nat_abs g) h) in
    low_cases (λ x. (pos c *ℤ x) ≤ℤ (g *ℤ t)) mode a (g *ℤ pos b)
    (λ z. rw (at_none z) (≤ℤ_of_≡ (ring (g ∷ pos b ∷ pos c ∷ []) (λ g b c. c ⊗ (g ⊗ b) ≐ g ⊗ (c ⊗ b)) tt)))
    (λ k. elim (≤ℤ-total (pos 0) g) [
      | inl p ↦ ≤ℤ_trans (*ℤ_mono (nonneg c) (minℤ-≤ℤ (pos 0) (g *ℤ pos b)).0) (≤ℤ_trans (≤ℤ_of_≡ (*ℤ-zero (pos c))) (*ℤ_nonneg p (at-even k)))
      | inr p ↦ ≤ℤ_trans (*ℤ_mono (nonneg c) (minℤ-≤ℤ (pos 0) (g *ℤ pos b)).1) (≤ℤ_by (*ℤ_nonneg (≤ℤ_sub.0 p) (≤ℤ_sub.0 (≤ℤ_trans (≤ℤ-nat_abs t) (pos_mono h))))
          (ring (g ∷ t ∷ pos b ∷ pos c ∷ []) (λ g t b c. g ⊗ t ⊖ c ⊗ (g ⊗ b) ≐ (# 0 ⊖ g) ⊗ (c ⊗ b ⊖ t) ⊖ # 0) tt))
    ])
    (rw nat_abs-*ℤ (≤ℤ_trans (≤ℤ_of_≡ (ring (pos (nat_abs g) ∷ pos b ∷ pos c ∷ []) (λ g b c. c ⊗ ⊝ (g ⊗ b) ≐ ⊝ (g ⊗ (c ⊗ b))) tt))
    (≤ℤ_trans (neg_ℤ_mono (pos_mono small)) (-nat_abs-≤ℤ (g *ℤ t)))))

module _ (F : Polynomial) (u : Point) (H : ℕ) (x : Point) (Q : ℕ) (h : InBox F u H x Q) where
  -- x - Q u
  offset : Point
  offset v = x v -ℤ pos Q *ℤ u v

  -- |offset^a| ≤ (Q H)^|a|
  offset_size : {a : List ℕ} → Memᴰ a (indices F) → nat_abs (powers offset a) ≤ (Q * H) ^ total a
  unfolding offset
  offset_size {a} m = powers_size a offset (Q * H) (rw (vectors_fit F.variables F.degree m).0 (λ v i. let b = h v i in omega arith))

  low_term : (mode : Mode) {a : List ℕ} → Memᴰ a (indices F) →
      (pow (pos Q) F.degree *ℤ low mode a (local F u H a)) ≤ℤ (taylor F u a *ℤ powers offset a *ℤ pow (pos Q) (F.degree - total a))
  low_term mode {a} m =
      let d = F.degree in let k = total a in let s = (vectors_fit F.variables d m).1 in
      rw (local_taylor, *ℤ_assoc (taylor F u a), pos_pow Q d, pos_pow H) (low-≤ℤ mode a (taylor F u a) (powers offset a *ℤ pow (pos Q) (d - k)) (Q ^ d) (H ^ k)
      (λ z. rw (powers_zero a offset z, z, Nat.sub-zero, Nat.pow-zero, Nat.mul-one, *ℤ_idl) (pos_pow Q d))
      (λ t. *ℤ_nonneg (powers_even a offset t) (pow_nonneg (nonneg Q) (d - k)))
      (rw (nat_abs-*ℤ, nat_abs_pow) (Nat.le_trans (Nat.mul-le-mul_right (Q ^ (d - k)) (offset_size m))
      (Nat.le_of_eq (rw (*_pow, Nat.mul_right_comm (Q ^ k) (H ^ k), ← (pow-add Q k (d - k))) (ap (λ (x : ℕ). Q ^ x * H ^ k) (omega arith)))))))

  -- Q^d lower ≤ F(x,Q)
  pub lower_below_value : (mode : Mode) → (pow (pos Q) F.degree *ℤ lower F mode u H) ≤ℤ value F x Q
  unfolding lower offset
  lower_below_value mode =
      let e : x ≡ (λ v. pos Q *ℤ u v +ℤ offset v) = fun_ext (λ v. ring (x v ∷ pos Q ∷ u v ∷ []) (λ x q u. x ≐ q ⊗ u ⊕ (x ⊖ q ⊗ u)) tt) in
      ≤ℤ_trans (rw *ℤ-sum (sum_mono (indices F) (λ a m. low_term mode m))) (≤ℤ_of_≡ (sym (ap (λ y. value F y Q) e ∙ taylor_formula F u offset Q)))

module _ (F : Polynomial) (u : Point) (H : ℕ) (x : Point) (Q : ℕ) (h : InBox F u H x Q) (mode : Mode) where
  -- F(x,Q) ≤ Q^d upper
  pub value_below_upper : value F x Q ≤ℤ (pow (pos Q) F.degree *ℤ upper F mode u H)
  value_below_upper = ≤ℤ_by (lower_below_value (opposite F) u H x Q h mode) (rw (upper_lower F mode u H, value_opposite F x Q)
      (ring (pow (pos Q) F.degree ∷ lower (opposite F) mode u H ∷ value F x Q ∷ []) (λ q l x. q ⊗ ⊝ l ⊖ x ≐ ⊝ x ⊖ q ⊗ l) tt))

  -- ---- a bound with a strict sign gives every value in the box that sign
  pub value_positive : 1 ≤ Q → pos 0 <ℤ lower F mode u H → pos 0 <ℤ value F x Q
  value_positive q l = <ℤ-≤ℤ_trans (rw *ℤ-zero at (*ℤ_mono_< (pow_positive (pos_mono_< q) F.degree) l)) (lower_below_value F u H x Q h mode)

  pub value_negative : 1 ≤ Q → upper F mode u H <ℤ pos 0 → value F x Q <ℤ pos 0
  value_negative q l = ≤ℤ_<ℤ_trans value_below_upper (rw *ℤ-zero at (*ℤ_mono_< (pow_positive (pos_mono_< q) F.degree) l))
