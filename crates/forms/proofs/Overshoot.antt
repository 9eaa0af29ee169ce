-- Overshoot: neither bound lies further beyond the extreme corner value on its side than twice the bend.
use mathlib.Core.Path.{◌≡◌, refl, sym, ◌∙◌, ap}
use mathlib.Core.List.{List, [], ◌∷◌}
use Prim.Native.Nat.{ℕ, zero, suc, ◌*◌, ◌≤◌}
use native.Mathlib.Nat as Nat
use native.Mathlib.Omega.{arith}
use lib.IntN.{ℤ, pos, ◌+ℤ◌, ◌-ℤ◌, ◌*ℤ◌, neg_ℤ, nat_abs}
use lib.Signed.{◌≤ℤ◌, ≤ℤ_refl}
use Rattle.algebra.specs.Sum.{sum}
use Rattle.algebra.proofs.Order.{≤ℤ_by, ≤ℤ_trans, ≤ℤ_of_≡, +ℤ_mono, neg_ℤ_mono, pos_mono}
use Rattle.algebra.proofs.Absolute.{nat_abs-*ℤ, ≤ℤ-nat_abs, -nat_abs-≤ℤ}
use Rattle.algebra.proofs.Ring.{ring, ◌⊕◌, ◌⊖◌, ◌⊗◌, ⊝◌, #◌, ◌≐◌}
use Rattle.algebra.proofs.Sum.{sum_mono, sum-+, *ℤ-sum, pos_sumℕ}
use Rattle.forms.specs.Vectors.{total}
use Rattle.forms.specs.Points.{Point, powers}
use Rattle.forms.specs.Polynomial.{Polynomial, indices, value}
use Rattle.forms.specs.Box.{Signs, corner}
use Rattle.forms.specs.LocalForm.{local}
use Rattle.forms.specs.Bounds.{Mode, low, lower, upper, bent, bend}
use Rattle.forms.specs.Straight.{turning}
use Rattle.forms.proofs.Vectors.{vectors_fit}
use Rattle.forms.proofs.Points.{powers_zero, powers_signs}
use Rattle.forms.proofs.Taylor.{local_whole}
use Rattle.forms.proofs.Bounds.{low_zero, low_one, nat_abs_low, bent_few, bent_many, opposite, value_opposite, upper_lower, bend_opposite}
use Rattle.forms.proofs.Signs.{nat_abs_against, turning_linear}

-- ---- one coefficient: g s ≤ low(g) + 2 bent(g), where s is σ^a
overshoot : (mode : Mode) (a : List ℕ) (g s : ℤ) → (total a ≡ 0 → s ≡ pos 1) → (total a ≡ 1 → g *ℤ s ≡ neg_ℤ (pos (nat_abs g))) → nat_abs s ≤ 1 →
    (g *ℤ s) ≤ℤ (low mode a g +ℤ pos 2 *ℤ pos (bent a g))
overshoot mode a g s at_none at-single h = go (total a) refl
  where
    go : (k : ℕ) → total a ≡ k → (g *ℤ s) ≤ℤ (low mode a g +ℤ pos 2 *ℤ pos (bent a g))
    go zero e = rw (bent_few a g (omega arith), at_none e, low_zero mode a g e) (≤ℤ_of_≡ (ring (g ∷ []) (λ g. g ⊗ # 1 ≐ g ⊕ # 2 ⊗ # 0) tt))
    go (suc zero) e = rw (bent_few a g (omega arith), at-single e, low_one mode a g e) (≤ℤ_of_≡ (ring (pos (nat_abs g) ∷ []) (λ g. ⊝ g ≐ ⊝ g ⊕ # 2 ⊗ # 0) tt))
    go (suc (suc k)) e =
        let small : nat_abs (g *ℤ s) ≤ nat_abs g = rw nat_abs-*ℤ (rw Nat.mul-one at (Nat.mul-le-mul_left (nat_abs g) h)) in
        rw (bent_many a g (omega arith)) (≤ℤ_by (+ℤ_mono (≤ℤ_trans (≤ℤ-nat_abs (g *ℤ s)) (pos_mono small)) (≤ℤ_trans (neg_ℤ_mono (pos_mono (nat_abs_low mode a g))) (-nat_abs-≤ℤ (low mode a g))))
        (ring (pos (nat_abs g) ∷ (g *ℤ s) ∷ low mode a g ∷ []) (λ g x l. l ⊕ # 2 ⊗ g ⊖ x ≐ g ⊕ l ⊖ (x ⊕ ⊝ g)) tt))

-- ---- at the corner with the signs against the linear coefficients, v - 2 bend ≤ lower
module _ (F : Polynomial) (u : Point) (H : ℕ) where
  least : Point
  least = turning F.variables (local F u H)

  least_signs : Signs F least
  unfolding least
  least_signs v i = nat_abs_against _

  low_corner : (mode : Mode) → (value F (corner u H least) 1 -ℤ pos (2 * bend F u H)) ≤ℤ lower F mode u H
  unfolding least lower bend
  low_corner mode =
      let I = indices F in let G = local F u H in let b : List ℕ → ℤ = λ a. pos (bent a (G a)) in
      let k : sum I (λ a. G a *ℤ powers least a) ≤ℤ sum I (λ a. low mode a (G a) +ℤ pos 2 *ℤ b a) =
      sum_mono I (λ a m. let (l, s) = vectors_fit F.variables F.degree m in
      overshoot mode a (G a) (powers least a) (powers_zero a least) (turning_linear F.variables G a l) (powers_signs a least (rw l least_signs))) in
      let e : sum I (λ a. low mode a (G a) +ℤ pos 2 *ℤ b a) ≡ lower F mode u H +ℤ pos 2 *ℤ pos (bend F u H) =
      sum-+ I (λ a. low mode a (G a)) (λ a. pos 2 *ℤ b a) ∙ ap (λ x. lower F mode u H +ℤ x) (sym (*ℤ-sum (pos 2) I b) ∙ ap (λ x. pos 2 *ℤ x) (sym (pos_sumℕ I (λ a. bent a (G a))))) in
      rw (local_whole F u H least) (≤ℤ_by (≤ℤ_trans k (≤ℤ_of_≡ e))
      (ring (sum I (λ a. G a *ℤ powers least a) ∷ lower F mode u H ∷ pos (bend F u H) ∷ []) (λ s l b. l ⊖ (s ⊖ # 2 ⊗ b) ≐ l ⊕ # 2 ⊗ b ⊖ s) tt))

module _ (F : Polynomial) (u : Point) (H : ℕ) where
  -- some corner value v has v - 2 bend ≤ lower, in both modes; and some corner value v has upper ≤ v + 2 bend
  pub lower_overshoot : (σ : Point) × Signs F σ × ((mode : Mode) → (value F (corner u H σ) 1 -ℤ pos (2 * bend F u H)) ≤ℤ lower F mode u H)
  lower_overshoot = (least F u H, least_signs F u H, low_corner F u H)

  pub upper_overshoot : (σ : Point) × Signs F σ × ((mode : Mode) → upper F mode u H ≤ℤ (value F (corner u H σ) 1 +ℤ pos (2 * bend F u H)))
  upper_overshoot =
      let O = opposite F in let σ = least O u H in let x = corner u H σ in
      let k : (mode : Mode) → upper F mode u H ≤ℤ (value F x 1 +ℤ pos (2 * bend F u H)) = λ mode.
      ≤ℤ_by (low_corner O u H mode) (rw (upper_lower F mode u H, value_opposite F x 1, bend_opposite F u H)
      (ring (value F x 1 ∷ pos (bend F u H) ∷ lower O mode u H ∷ []) (λ v b l. v ⊕ # 2 ⊗ b ⊖ ⊝ l ≐ l ⊖ (⊝ v ⊖ # 2 ⊗ b)) tt)) in
      (σ, least_signs O u H, k)

  -- so where m is at most every corner value, m - 2 bend ≤ lower; and where m is at least every one, upper ≤ m + 2 bend
  pub lower_over_corners : (mode : Mode) (m : ℤ) → ((σ : Point) → Signs F σ → m ≤ℤ value F (corner u H σ) 1) → (m -ℤ pos (2 * bend F u H)) ≤ℤ lower F mode u H
  lower_over_corners mode m h = let (σ, s, k) = lower_overshoot in ≤ℤ_trans (+ℤ_mono (h σ s) (≤ℤ_refl _)) (k mode)

  pub upper_over_corners : (mode : Mode) (m : ℤ) → ((σ : Point) → Signs F σ → value F (corner u H σ) 1 ≤ℤ m) → upper F mode u H ≤ℤ (m +ℤ pos (2 * bend F u H))
  upper_over_corners mode m h = let (σ, s, k) = upper_overshoot in ≤ℤ_trans (k mode) (+ℤ_mono (h σ s) (≤ℤ_refl _))
