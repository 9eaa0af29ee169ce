-- The bend on the label: what the largest bend among coloured finest cells says of a sheet.
use mathlib.Core.Path.{◌≡◌, refl, subst}
use mathlib.Core.List.{[], ◌∷◌}
use Prim.Native.Nat.{ℕ, ◌*◌, ◌^◌, ◌≤◌, ◌<◌}
use native.Mathlib.Nat as Nat
use native.Mathlib.Omega.{arith}
use lib.IntN.{ℤ, pos, neg_ℤ, ◌+ℤ◌, ◌-ℤ◌}
use lib.Signed.{◌≤ℤ◌, ◌<ℤ◌}
use Rattle.algebra.proofs.Order.{≤ℤ_by, ≤ℤ_trans, <ℤ_step, pos_mono, pos_cancel}
use Rattle.algebra.proofs.Ring.{ring, ◌⊕◌, ◌⊖◌, ⊝◌, #◌, ◌≐◌}
use Rattle.forms.specs.Bounds.{Mode}
use Rattle.forms.proofs.Plane.{at_each}
use Rattle.verdicts.specs.Walking.{colour, largest_bend}
use Rattle.verdicts.specs.Facts.{IsLargest}
use Rattle.verdicts.proofs.Judging.{judged_bend}
use Rattle.verdicts.proofs.Bends.{bend_largest, largest_by}
use Rattle.page.specs.Sheet.{Sheet}
use Rattle.page.specs.Scaled.{F, half_side, U0, V0}
use Rattle.page.specs.Bounds.{lower, upper, bend, verdict}
use Rattle.page.specs.Demand3.{AtCorners, NearCorners}
use Rattle.page.specs.Label.{Labelled, SheetLabelled}
use Rattle.page.proofs.Demand3.{no_overshoot, open_around}
use Rattle.page.proofs.Raster.{coloured_open, coloured_meets}

-- ---- corner values and bounds
module _ (S : Sheet) (j p q : ℕ) where
  at_values : (P Q : ℤ → Type 0) → ((z : ℤ) → P z → Q z) → AtCorners (U0 S j p) (V0 S j q) (half_side S j) (λ u v. P (F S u v)) → AtCorners (U0 S j p) (V0 S j q) (half_side S j) (λ u v. Q (F S u v))
  at_values P Q f = at_each (U0 S j p) (V0 S j q) (half_side S j) (λ u v. P (F S u v)) (λ u v. Q (F S u v)) (λ u v. f (F S u v))

  module _ (low high : ℤ) where
    -- what is near is near by more, too
    nearer : {n m : ℕ} → n ≤ m → NearCorners S j p q low high n → NearCorners S j p q low high m
    nearer {n} {m} l h = (
      λ x c. ≤ℤ_trans (≤ℤ_by (pos_mono l) (ring (x ∷ pos n ∷ pos m ∷ []) (λ x n m. x ⊖ n ⊖ (x ⊖ m) ≐ m ⊖ n) tt)) (h.0 x c),
      λ x c. ≤ℤ_trans (h.1 x c) (≤ℤ_by (pos_mono l) (ring (x ∷ pos n ∷ pos m ∷ []) (λ x n m. x ⊕ m ⊖ (x ⊕ n) ≐ m ⊖ n) tt)),
    )

    -- where the bounds hold 0 between them and are near, the corner values do not all lie far from 0 on one side
    not_beyond : (n : ℕ) → NearCorners S j p q low high n → (low ≤ℤ pos 0) × (pos 0 ≤ℤ high)
        → (AtCorners (U0 S j p) (V0 S j q) (half_side S j) (λ u v. pos n <ℤ F S u v) → ⊥) × (AtCorners (U0 S j p) (V0 S j q) (half_side S j) (λ u v. F S u v <ℤ neg_ℤ (pos n)) → ⊥)
    not_beyond n h o = (
      λ c.
          let l = h.0 (pos n +ℤ pos 1) (at_values (λ z. pos n <ℤ z) (λ z. (pos n +ℤ pos 1) ≤ℤ z) (λ z s. <ℤ_step.0 s) c) in
          let z : pos 1 ≤ℤ pos 0 = ≤ℤ_by (≤ℤ_trans l o.0) (ring (pos n ∷ []) (λ n. # 0 ⊖ # 1 ≐ # 0 ⊖ (n ⊕ # 1 ⊖ n)) tt) in omega (arith, pos_cancel z),
      λ c.
          let l = h.1 (neg_ℤ (pos n) -ℤ pos 1) (at_values (λ z. z <ℤ neg_ℤ (pos n)) (λ z. z ≤ℤ (neg_ℤ (pos n) -ℤ pos 1)) (λ z s. ≤ℤ_by (<ℤ_step.0 s) (ring (z ∷ pos n ∷ []) (λ f n. ⊝ n ⊖ # 1 ⊖ f ≐ ⊝ n ⊖ (f ⊕ # 1)) tt)) c) in
          let z : pos 1 ≤ℤ pos 0 = ≤ℤ_by (≤ℤ_trans o.1 l) (ring (pos n ∷ []) (λ n. # 0 ⊖ # 1 ≐ ⊝ n ⊖ # 1 ⊕ n ⊖ # 0) tt) in omega (arith, pos_cancel z),
    )

-- ---- the label
pub sheet_labelled : SheetLabelled
sheet_labelled S mode = record {
  largest = largest;
  straight = λ z p q a b c. coloured_meets S mode p q c (let l = largest.at_most p q a b c in omega arith);
  near = near;
  not_far = λ p q a b c. not_beyond S S.k p q (lower S mode S.k p q) (upper S mode S.k p q) _ (near p q a b c) (open_around S mode S.k p q (coloured_open S mode p q c).2);
}
  where
    largest : IsLargest S.k (λ p q. colour (verdict S mode) S.k p q ≡ 1) (bend S S.k) (largest_bend (verdict S mode) S.k)
    largest = largest_by (λ p q a b c. c) (λ p q a b c. c) (λ p q. judged_bend (lower S mode S.k p q) (upper S mode S.k p q) (bend S S.k p q)) refl (bend_largest (verdict S mode) S.k)

    near : (p q : ℕ) → p < 2 ^ S.k → q < 2 ^ S.k → colour (verdict S mode) S.k p q ≡ 1
        → NearCorners S S.k p q (lower S mode S.k p q) (upper S mode S.k p q) (2 * largest_bend (verdict S mode) S.k)
    near p q a b c = nearer S S.k p q (lower S mode S.k p q) (upper S mode S.k p q) (Nat.mul-le-mul_left 2 (largest.at_most p q a b c)) (no_overshoot S mode S.k p q)

-- ---- the same by another property that says which cells are coloured
pub labelled_by : {S : Sheet} {mode : Mode} {P Q : ℕ → ℕ → Type 0} {b c : ℕ}
    → ((p q : ℕ) → p < 2 ^ S.k → q < 2 ^ S.k → P p q → Q p q) → ((p q : ℕ) → p < 2 ^ S.k → q < 2 ^ S.k → Q p q → P p q) → b ≡ c → Labelled S mode P b → Labelled S mode Q c
labelled_by {S} {mode} {P} {Q} there back e l = subst (Labelled S mode Q) e (record {
  largest = largest_by there back (λ p q. refl) refl l.largest;
  straight = λ o p q x y z. l.straight o p q x y (back p q x y z);
  near = λ p q x y z. l.near p q x y (back p q x y z);
  not_far = λ p q x y z. l.not_far p q x y (back p q x y z);
})
