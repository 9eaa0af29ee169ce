-- Demand 3 for the cells of a sheet.
use mathlib.Core.Path.{◌≡◌, refl, sym, ◌∙◌, ap, subst}
use mathlib.Core.Bool.{Bool, true, false, not, cond}
use mathlib.Core.List.{[], ◌∷◌}
use Prim.Native.Nat.{ℕ, ◌+◌, ◌*◌, ◌^◌, ◌≤◌}
use native.Mathlib.Nat as Nat
use native.Mathlib.Omega.{arith}
use lib.Dec.{T}
use lib.IntN.{ℤ, pos, neg_ℤ, ◌+ℤ◌, ◌-ℤ◌, ◌*ℤ◌, nat_abs}
use lib.Pow.{pow_mono}
use lib.Signed.{◌≤ℤ◌, ◌<ℤ◌, lt_z, lt_z_yes, lt_z_no}
use Rattle.algebra.proofs.Absolute.{nat_abs-+ℤ, nat_abs_neg_ℤ}
use Rattle.forms.specs.Polynomial.{value}
use Rattle.forms.specs.Box.{InBox}
use Rattle.forms.specs.LocalForm.{local}
use Rattle.forms.specs.Bounds as Bounds
use Rattle.forms.specs.Weight as Weights
use Rattle.forms.specs.Plane.{pair, AtCorners}
use Rattle.forms.proofs.Demand3 as Box
use Rattle.forms.proofs.NoBend.{meets}
use Rattle.forms.proofs.Plane.{both, pair_index, in_plane, value_pair, at_each, lower_four_corners, upper_four_corners}
use Rattle.forms.proofs.Size.{local_size, lower_size, upper_size, bend_size, box_limited, value_in_box_size}
use Rattle.verdicts.specs.declared.Verdict.{Verdict}
use Rattle.verdicts.specs.declared.Verdict.TheVariants.{Above, Below, Open}
use Rattle.verdicts.specs.Judging.{judged, carried_bend}
use Rattle.verdicts.proofs.Judging.{judged_bend}
use Rattle.page.specs.Sheet.{Sheet, A}
use Rattle.page.specs.Scaled.{F, IsCell, InCell, half_side, U0, V0}
use Rattle.page.specs.Bounds.{lower, upper, bend, verdict}
use Rattle.page.specs.Weight.{Rx, Ry, Accepted}
use Rattle.page.specs.Demand3.{Contained, NoOvershoot, OneSign, OpenMeets, Fits64, CellFits, AllFit}
use Rattle.page.proofs.Cells.{limit_u, limit_v}
use Rattle.page.proofs.Weights.{limits, limits_small, weight_is}
use Rattle.page.proofs.Page.{polynomial, centre, value_is, F_is, G_is, lower_is, upper_is, bend_is}

-- ---- the cell is the box
module _ (S : Sheet) (j p q : ℕ) where
  pub in_box : {M N : ℤ} {Q : ℕ} → InCell S j p q M N Q → InBox (polynomial S) (centre S j p q) (half_side S j) (pair M N) Q
  in_box {M} {N} {Q} c = (in_plane S.d (2 ^ (S.k + 1)) (A S) (U0 S j p) (V0 S j q) (half_side S j) M N Q).0 (omega (arith, c.across), omega (arith, c.along))

  from_box : {M N : ℤ} {Q : ℕ} → InBox (polynomial S) (centre S j p q) (half_side S j) (pair M N) Q → InCell S j p q M N Q
  from_box {M} {N} {Q} b = let h = (in_plane S.d (2 ^ (S.k + 1)) (A S) (U0 S j p) (V0 S j q) (half_side S j) M N Q).1 b in record { across = h.0; along = h.1 }

-- ---- the verdict tells the bounds' signs
abbrev Told : ℤ → ℤ → Verdict → Type 0
Told x y (Above l u b) = pos 0 <ℤ x
Told x y (Below l u b) = y <ℤ pos 0
Told x y (Open l u b) = (x ≤ℤ pos 0) × (pos 0 ≤ℤ y)

pub told : (x y : ℤ) (b : ℕ) → Told x y (judged x y b)
unfolding judged
told x y b = go (lt_z (pos 0) x) (lt_z y (pos 0)) refl refl
  where
    go : (s t : Bool) → lt_z (pos 0) x ≡ s → lt_z y (pos 0) ≡ t → Told x y (cond s (Above x y b) (cond t (Below x y b) (Open x y b)))
    go true t w v = lt_z_yes (subst T (sym w) tt)
    go false true w v = lt_z_yes (subst T (sym v) tt)
    go false false w v = (lt_z_no (subst (λ b. T (not b)) (sym w) tt), lt_z_no (subst (λ b. T (not b)) (sym v) tt))

-- containment
pub contained : Contained
contained S mode j p q M N Q c = rw (lower_is S j p q mode, upper_is S j p q mode, value_is S M N Q) (Box.contained (polynomial S) mode (centre S j p q) (half_side S j) (pair M N) Q (in_box S j p q c))

-- a cleared cell has one strict sign
pub one_sign : OneSign
one_sign S mode j p q M N Q o c l u b =
    let signed = Box.strictly_signed (polynomial S) mode (centre S j p q) (half_side S j) (pair M N) Q o (in_box S j p q c) in
    let tell = told (lower S mode j p q) (upper S mode j p q) (bend S j p q) in (
      λ e. rw (value_is S M N Q) (signed.0 (rw (lower_is S j p q mode) at (subst (Told (lower S mode j p q) (upper S mode j p q)) e tell))),
      λ e. rw (value_is S M N Q) (signed.1 (rw (upper_is S j p q mode) at (subst (Told (lower S mode j p q) (upper S mode j p q)) e tell))),
    )

-- overshoot, by the four corners
at_values : (S : Sheet) (j p q : ℕ) (P : ℤ → Type 0) → AtCorners (U0 S j p) (V0 S j q) (half_side S j) (λ u v. P (F S u v)) → AtCorners (U0 S j p) (V0 S j q) (half_side S j) (λ u v. P (value (polynomial S) (pair u v) 1))
at_values S j p q P = at_each (U0 S j p) (V0 S j q) (half_side S j) _ _ (λ u v. subst P (F_is S u v))

pub no_overshoot : NoOvershoot
no_overshoot S mode j p q = (
  λ m h. rw (lower_is S j p q mode, bend_is S j p q) (lower_four_corners S.d (2 ^ (S.k + 1)) (A S) (U0 S j p) (V0 S j q) (half_side S j) mode m (at_values S j p q (λ z. m ≤ℤ z) h)),
  λ m h. rw (upper_is S j p q mode, bend_is S j p q) (upper_four_corners S.d (2 ^ (S.k + 1)) (A S) (U0 S j p) (V0 S j q) (half_side S j) mode m (at_values S j p q (λ z. z ≤ℤ m) h)),
)

-- the bounds of an open cell hold 0 between them
pub open_around : (S : Sheet) (mode : Bounds.Mode) (j p q : ℕ) {l u : ℤ} {b : ℕ} → verdict S mode j p q ≡ Open l u b → (lower S mode j p q ≤ℤ pos 0) × (pos 0 ≤ℤ upper S mode j p q)
open_around S mode j p q e = subst (Told (lower S mode j p q) (upper S mode j p q)) e (told (lower S mode j p q) (upper S mode j p q) (bend S j p q))

-- an open cell without bend meets the curve
pub open_meets : OpenMeets
open_meets S mode j p q l u e =
    let t = open_around S mode j p q e in
    let z = sym (judged_bend (lower S mode j p q) (upper S mode j p q) (bend S j p q)) ∙ ap carried_bend e in
    let m = meets (polynomial S) (centre S j p q) (half_side S j) (sym (bend_is S j p q) ∙ z) mode (rw (lower_is S j p q mode) at t.0) (rw (upper_is S j p q mode) at t.1) in
    record {
      M = m.x 0;
      N = m.x 1;
      Q = m.Q;
      positive = m.positive;
      inside = from_box S j p q (both (λ v. nat_abs (pair (m.x 0) (m.x 1) v -ℤ pos m.Q *ℤ centre S j p q v) ≤ m.Q * half_side S j) (m.inside 0 (omega arith)) (m.inside 1 (omega arith)));
      vanishes = value_is S (m.x 0) (m.x 1) m.Q ∙ sym (value_pair S.d (2 ^ (S.k + 1)) (A S) m.x m.Q) ∙ m.vanishes;
    }

-- ---- sizes: on an accepted sheet all of it fits in 64 signed bits
module _ (S : Sheet) (j p q : ℕ) (c : IsCell S.k j p q) where
  -- the cell lies within the limits
  pub limited : Weights.Limited (polynomial S) (centre S j p q) (half_side S j) (limits S)
  limited = both (λ v. nat_abs (centre S j p q v) + half_side S j ≤ 2 ^ (S.k + 1) * limits S v) (limit_u S j p q c) (limit_v S j p q c)

  module _ (a : Accepted S) where
    -- a coordinate within the limit of its axis fits
    fits_limit : {r : ℕ} → r ≤ 2_097_152 → (u : ℤ) → nat_abs u ≤ 2 ^ (S.k + 1) * r → Fits64 u
    fits_limit m u h = Nat.lt_of_le_of_lt (Nat.le_trans h (Nat.mul-le-mul scale_small m)) (omega arith)
      where
        scale_small : 2 ^ (S.k + 1) ≤ 2 ^ 8
        scale_small = let d = a.ranges.depth in let e : S.k + 1 ≤ 8 = omega arith in pow_mono e

    fits_u : (u : ℤ) → nat_abs u ≤ 2 ^ (S.k + 1) * Rx S → Fits64 u
    fits_u = fits_limit (limits_small a.ranges).0

    fits_v : (v : ℤ) → nat_abs v ≤ 2 ^ (S.k + 1) * Ry S → Fits64 v
    fits_v = fits_limit (limits_small a.ranges).1

    -- what is at most the weight fits
    fits_weight : (z : ℤ) → nat_abs z ≤ Weights.weight (polynomial S) (limits S) → Fits64 z
    fits_weight z h = let w = weight_is S in let l = a.light in omega arith

    minus_le : (u : ℤ) (h n : ℕ) → nat_abs u + h ≤ n → nat_abs (u -ℤ pos h) ≤ n
    minus_le u h n l = let t = nat_abs-+ℤ u (neg_ℤ (pos h)) in let e = nat_abs_neg_ℤ (pos h) in omega arith

    plus_le : (u : ℤ) (h n : ℕ) → nat_abs u + h ≤ n → nat_abs (u +ℤ pos h) ≤ n
    plus_le u h n l = let t = nat_abs-+ℤ u (pos h) in omega arith

    cell_fits : (mode : Bounds.Mode) → CellFits S mode j p q
    cell_fits mode =
        let P = polynomial S in let u = centre S j p q in let H = half_side S j in let r = limits S in let m = 2 ^ (S.k + 1) * Rx S in let n = 2 ^ (S.k + 1) * Ry S in
        let hu = limit_u S j p q c in let hv = limit_v S j p q c in
        let left = fits_u (U0 S j p -ℤ pos H) (minus_le (U0 S j p) H m hu) in let right = fits_u (U0 S j p +ℤ pos H) (plus_le (U0 S j p) H m hu) in
        let bottom = fits_v (V0 S j q -ℤ pos H) (minus_le (V0 S j q) H n hv) in let top = fits_v (V0 S j q +ℤ pos H) (plus_le (V0 S j q) H n hv) in
        record {
          half = fits_u (pos H) (omega arith);
          points = λ x y i. let b = box_limited P u H r (pair x y) limited (in_box S j p q i) in (fits_u x (b 0 (omega arith)), fits_v y (b 1 (omega arith)));
          centre = (fits_u (U0 S j p) (omega arith), fits_v (V0 S j q) (omega arith));
          edges = ((left, bottom), (right, bottom), (left, top), (right, top));
          form = λ a b l. rw (G_is S j p q a b) (fits_weight (local P u H (a ∷ b ∷ [])) (local_size P u H r limited (a ∷ b ∷ []) (pair_index S.d (2 ^ (S.k + 1)) (A S) a b l)));
          bounds = (rw (lower_is S j p q mode) (fits_weight (Bounds.lower P mode u H) (lower_size P u H r limited mode)), rw (upper_is S j p q mode) (fits_weight (Bounds.upper P mode u H) (upper_size P u H r limited mode)));
          bends = rw (bend_is S j p q) (fits_weight (pos (Bounds.bend P u H)) (bend_size P u H r limited));
          values = λ x y i. rw (F_is S x y) (fits_weight (value P (pair x y) 1) (value_in_box_size P u H r (pair x y) limited (in_box S j p q i)));
        }

pub all_fit : AllFit
all_fit S a mode j p q c = cell_fits S j p q c a mode
