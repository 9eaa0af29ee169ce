-- The closed square is the cell at level 0; and where the depth and the degree are the largest, only zeros are light.
use mathlib.Core.Path.{◌≡◌, refl, sym, ◌∙◌, ap, subst}
use mathlib.Core.Bool.{Bool, true, false}
use mathlib.Core.List.{[], ◌∷◌}
use Prim.Native.Nat.{ℕ, ◌+◌, ◌*◌, ◌-◌, ◌^◌, ◌≤◌}
use native.Mathlib.Nat as Nat
use native.Mathlib.Omega.{arith}
use borrow.Author.Tests.{le-leb}
use lib.Dec.{T}
use lib.IntN.{ℤ, pos, neg_ℤ, ◌+ℤ◌, ◌-ℤ◌, ◌*ℤ◌, nat_abs}
use lib.Signed.{◌≤ℤ◌, lt_z, lt_z_yes, clash_ℤ}
use Rattle.algebra.specs.Sum.{◌⋯◌}
use Rattle.algebra.proofs.Sum.{sumℕ_zero}
use Rattle.algebra.specs.Triangle.{triangle}
use Rattle.algebra.proofs.Absolute.{nat_abs_bound, nat_abs_zero, ≤ℤ-nat_abs, -nat_abs-≤ℤ}
use Rattle.algebra.proofs.Order.{≤ℤ_by, ≤ℤ_trans, neg_ℤ_mono, pos_mono}
use Rattle.algebra.proofs.Ring.{ring, ◌⊕◌, ◌⊖◌, ◌⊗◌, ⊝◌, #◌, ◌≐◌}
use Rattle.algebra.proofs.Triangle.{triangle_mono}
use Rattle.page.specs.Sheet.{A}
use Rattle.page.specs.Scaled.{half_side, InCell}
use Rattle.page.specs.Weight.{Rx, Ry, weight}
use Rattle.page.specs.Refusals.{outside_side, misplaced, point, refusal, to_check}
use Rattle.page.specs.Facts.{SquareIsCell, OnlyZeros}
use Rattle.page.proofs.Rows.{no_range_refusal, or_both, check_rows, rest}
use Rattle.page.proofs.Cells.{inside_side, cells_make}
use Rattle.page.proofs.Weights.{limits_positive, member_triangle}
use Rattle.page.proofs.Facts.{accepted_by_check}

-- ---- the square
not_less : {a b : ℤ} → b ≤ℤ a → lt_z a b ≡ false
not_less {a} {b} h = go (lt_z a b) refl
  where
    go : (t : Bool) → lt_z a b ≡ t → lt_z a b ≡ false
    go true e = clash_ℤ (lt_z_yes (subst T (sym e) tt)) h
    go false e = e

-- along one axis, with 2 H = K n: what lies from K z to K (z + n) is what is within H of K z + H
module _ (K n H : ℕ) (z u : ℤ) (twice : 2 * H ≡ K * n) where
  far : pos K *ℤ (z +ℤ pos n) ≡ pos K *ℤ z +ℤ (pos H +ℤ pos H)
  far = ring (pos K ∷ z ∷ pos n ∷ []) (λ k z n. k ⊗ (z ⊕ n) ≐ k ⊗ z ⊕ k ⊗ n) tt ∙ ap (λ x. pos K *ℤ z +ℤ pos x) (let t : K * n ≡ H + H = omega arith in t)

  abbrev offset : ℤ
  offset = u -ℤ pos 1 *ℤ (pos K *ℤ z +ℤ pos (1 * H))

  above_low : (pos K *ℤ z) ≤ℤ u → neg_ℤ (pos (1 * H)) ≤ℤ offset
  above_low h = ≤ℤ_by h (ring (u ∷ (pos K *ℤ z) ∷ pos H ∷ []) (λ u x h. u ⊖ # 1 ⊗ (x ⊕ # 1 ⊗ h) ⊖ ⊝ (# 1 ⊗ h) ≐ u ⊖ x) tt)

  below_high : u ≤ℤ (pos K *ℤ (z +ℤ pos n)) → offset ≤ℤ pos (1 * H)
  below_high h = ≤ℤ_by (rw far at h) (ring (u ∷ (pos K *ℤ z) ∷ pos H ∷ []) (λ u x h. # 1 ⊗ h ⊖ (u ⊖ # 1 ⊗ (x ⊕ # 1 ⊗ h)) ≐ x ⊕ (h ⊕ h) ⊖ u) tt)

  low_above : neg_ℤ (pos (1 * H)) ≤ℤ offset → (pos K *ℤ z) ≤ℤ u
  low_above h = ≤ℤ_by h (ring (u ∷ (pos K *ℤ z) ∷ pos H ∷ []) (λ u x h. u ⊖ x ≐ u ⊖ # 1 ⊗ (x ⊕ # 1 ⊗ h) ⊖ ⊝ (# 1 ⊗ h)) tt)

  high_below : offset ≤ℤ pos (1 * H) → u ≤ℤ (pos K *ℤ (z +ℤ pos n))
  high_below h = rw far (≤ℤ_by h (ring (u ∷ (pos K *ℤ z) ∷ pos H ∷ []) (λ u x h. x ⊕ (h ⊕ h) ⊖ u ≐ # 1 ⊗ h ⊖ (u ⊖ # 1 ⊗ (x ⊕ # 1 ⊗ h))) tt))

  near_centre : ((pos K *ℤ z) ≤ℤ u) × (u ≤ℤ (pos K *ℤ (z +ℤ pos n))) → nat_abs offset ≤ 1 * H
  near_centre h = nat_abs_bound (above_low h.0) (below_high h.1)

  not_outside : nat_abs offset ≤ 1 * H → (lt_z u (pos K *ℤ z) ≡ false) × (lt_z (pos K *ℤ (z +ℤ pos n)) u ≡ false)
  not_outside h =
      (not_less (low_above (≤ℤ_trans (neg_ℤ_mono (pos_mono h)) (-nat_abs-≤ℤ offset))), not_less (high_below (≤ℤ_trans (≤ℤ-nat_abs offset) (pos_mono h))))

pub square_is_cell : SquareIsCell
square_is_cell S u v = (to, from)
  where
    twice : 2 * half_side S 0 ≡ 2 ^ (S.k + 1) * 2 ^ S.s
    twice = sym (Nat.one-mul (2 * half_side S 0)) ∙ cells_make S 0 0 (omega arith) (omega arith)

    to : misplaced S (point u v) ≡ false → InCell S 0 0 0 u v 1
    to e =
        let h = or_both (outside_side S.s S.k S.X u) (outside_side S.s S.k S.Y v) e in
        record {
          across = near_centre (2 ^ (S.k + 1)) (2 ^ S.s) (half_side S 0) S.X u twice (inside_side S.s S.k S.X u h.0);
          along = near_centre (2 ^ (S.k + 1)) (2 ^ S.s) (half_side S 0) S.Y v twice (inside_side S.s S.k S.Y v h.1);
        }

    from : InCell S 0 0 0 u v 1 → misplaced S (point u v) ≡ false
    from c =
        let x = not_outside (2 ^ (S.k + 1)) (2 ^ S.s) (half_side S 0) S.X u twice c.across in let y = not_outside (2 ^ (S.k + 1)) (2 ^ S.s) (half_side S 0) S.Y v twice c.along in
        rw (x.0, x.1, y.0, y.1)

-- ---- d 8 with k 7
pub only_zeros : OnlyZeros
unfolding weight
only_zeros S r d k = (zeros, some)
  where
    scale : 2 ^ ((S.k + 1) * S.d) ≡ 2 ^ 64
    scale = rw (d, k)

    zeros : ((i j : ℕ) → i + j ≤ 8 → A S i j ≡ pos 0) → refusal (to_check S) ≡ 0
    zeros z =
        let none : triangle S.d (λ i j. nat_abs (A S i j) * Rx S ^ i * Ry S ^ j) ≤ triangle S.d (λ i j. 0) = triangle_mono S.d (λ i j l. rw (z i j (rw d at l)) (omega arith)) in
        let nothing : triangle S.d (λ i j. 0) ≡ 0 = sumℕ_zero (0 ⋯ S.d) (λ i m. sumℕ_zero (0 ⋯ (S.d - i)) (λ j n. refl)) in
        let w : triangle S.d (λ i j. nat_abs (A S i j) * Rx S ^ i * Ry S ^ j) ≡ 0 = omega arith in
        (accepted_by_check S).0 (record { ranges = r; light = rw (w, Nat.mul-zero) (omega arith) })

    some : (i j : ℕ) → i + j ≤ 8 → (A S i j ≡ pos 0 → ⊥) → refusal (to_check S) ≡ 6
    some i j l n =
        let m = member_triangle S.d (λ i j. nat_abs (A S i j) * Rx S ^ i * Ry S ^ j) i j (rw d l) in
        let one : 1 ≤ nat_abs (A S i j) = Nat.pos_of_ne-zero (λ e. n (nat_abs_zero (A S i j) e)) in
        let o : 1 ≤ nat_abs (A S i j) * Rx S ^ i * Ry S ^ j = Nat.mul-le-mul (Nat.mul-le-mul one (Nat.one-le-pow i (Rx S) (limits_positive S).0)) (Nat.one-le-pow j (Ry S) (limits_positive S).1) in
        let b : 2 ^ 62 ≤ weight S = rw scale (Nat.le_trans (omega arith) (Nat.mul-le-mul_left (2 ^ 64) (Nat.le_trans o m))) in
        check_rows S ∙ rest _ (no_range_refusal S r) ∙ rw (le-leb (2 ^ 62) (weight S) b)
