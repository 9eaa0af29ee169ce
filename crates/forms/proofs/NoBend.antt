-- No bend: where the bend is zero and zero lies between the bounds, the value is zero at a point of the closed box, which is given.
use mathlib.Core.Path.{◌≡◌, refl, sym, ◌∙◌, ap}
use mathlib.Core.Bool.{cond}
use mathlib.Core.List.{List, [], ◌∷◌, Memᴰ}
use Prim.Native.Nat.{ℕ, zero, suc, ◌*◌, ◌-◌, ◌≤◌, max}
use native.Mathlib.Nat as Nat
use native.Mathlib.Omega.{arith}
use lib.Dec.{eqb, eqb-suc-suc, eqb-suc-zero}
use lib.IntN.{ℤ, pos, ◌+ℤ◌, ◌-ℤ◌, ◌*ℤ◌, neg_ℤ, nat_abs, pow, +ℤ_idl, +ℤ_idr, zero-*ℤ, *ℤ-zero, *ℤ_comm, neg_ℤ-neg_ℤ}
use lib.Signed.{◌≤ℤ◌}
use Rattle.algebra.specs.Sum.{sum, sumℕ}
use Rattle.algebra.proofs.Power.{pow_zero, pow_suc, pow_one}
use Rattle.algebra.proofs.Order.{≤ℤ_by, pos_mono_<, *ℤ_cancel_l}
use Rattle.algebra.proofs.Absolute.{nat_abs-*ℤ, nat_abs_neg_ℤ, nat_abs_zero, nat_abs_bound}
use Rattle.algebra.proofs.Ring.{ring, ◌⊕◌, ◌⊖◌, ◌⊗◌, ⊝◌, #◌, ◌≐◌}
use Rattle.algebra.proofs.Sum.{sum_cong, sum-+, sum-*ℤ, neg_ℤ_sum, pos_sumℕ, sumℕ_member}
use Rattle.forms.specs.Vectors.{total}
use Rattle.forms.specs.Points.{Point, powers}
use Rattle.forms.specs.Polynomial.{Polynomial, indices, value}
use Rattle.forms.specs.Box.{InBox, Meets}
use Rattle.forms.specs.LocalForm.{local}
use Rattle.forms.specs.Bounds.{Mode, low, high, lower, upper, bent, bend}
use Rattle.forms.specs.Straight.{turning, zero_denominator, zero_point}
use Rattle.forms.proofs.Vectors.{vectors_fit}
use Rattle.forms.proofs.Points.{powers_zero, powers-*ℤ}
use Rattle.forms.proofs.Taylor.{local_formula}
use Rattle.forms.proofs.Bounds.{low_zero, low_one, nat_abs_low, high_low, nat_abs_high, bent_many}
use Rattle.forms.proofs.Signs.{nat_abs_against, turning_linear}

-- ---- one coefficient: g at |a| = 0, |g| at |a| = 1, and no other
constant_part : List ℕ → ℤ → ℤ
constant_part a g = cond (eqb (total a) 0) g (pos 0)

linear_part : List ℕ → ℤ → ℕ
linear_part a g = cond (eqb (total a) 1) (nat_abs g) 0

data Kind (a : List ℕ) (g : ℤ) : Type 0 where
  none : total a ≡ 0 → constant_part a g ≡ g → linear_part a g ≡ 0 → Kind a g
  single : total a ≡ 1 → constant_part a g ≡ pos 0 → linear_part a g ≡ nat_abs g → Kind a g
  flat : g ≡ pos 0 → constant_part a g ≡ pos 0 → linear_part a g ≡ 0 → Kind a g

kind : (a : List ℕ) (g : ℤ) → bent a g ≡ 0 → Kind a g
unfolding constant_part linear_part
kind a g h = go (total a) refl
  where
    go : (k : ℕ) → total a ≡ k → Kind a g
    go zero e = none e (rw e) (rw e)
    go (suc zero) e = single e (rw e) (rw e)
    go (suc (suc k)) e = flat (nat_abs_zero g (sym (bent_many a g (omega arith)) ∙ h)) (rw (e, eqb-suc-zero)) (rw (e, eqb-suc-suc, eqb-suc-zero))

low_parts : (mode : Mode) (a : List ℕ) (g : ℤ) → bent a g ≡ 0 → low mode a g ≡ constant_part a g -ℤ pos (linear_part a g)
low_parts mode a g h = elim (kind a g h) [
  | none e c l ↦ rw (low_zero mode a g e, c, l) (sym (+ℤ_idr g))
  | single e c l ↦ rw (low_one mode a g e, c, l) (sym (+ℤ_idl (neg_ℤ (pos (nat_abs g)))))
  | flat z c l ↦ let s = nat_abs_low mode a g in let t = ap nat_abs z in rw (nat_abs_zero (low mode a g) (omega arith), c, l)
]

high_parts : (mode : Mode) (a : List ℕ) (g : ℤ) → bent a g ≡ 0 → high mode a g ≡ constant_part a g +ℤ pos (linear_part a g)
high_parts mode a g h = elim (kind a g h) [
  | none e c l ↦ rw (high_low, low_zero mode a (neg_ℤ g) e, neg_ℤ-neg_ℤ, c, l) (sym (+ℤ_idr g))
  | single e c l ↦ rw (high_low, low_one mode a (neg_ℤ g) e, neg_ℤ-neg_ℤ, nat_abs_neg_ℤ, c, l) (sym (+ℤ_idl (pos (nat_abs g))))
  | flat z c l ↦ let s = nat_abs_high mode a g in let t = ap nat_abs z in rw (nat_abs_zero (high mode a g) (omega arith), c, l)
]

-- one term of the value at Q u + H K σ, times Q, where s is σ^a
line_term : (a : List ℕ) (g s K : ℤ) (d Q : ℕ) → bent a g ≡ 0 → total a ≤ d → (total a ≡ 0 → s ≡ pos 1) → (total a ≡ 1 → g *ℤ s ≡ neg_ℤ (pos (nat_abs g))) →
    g *ℤ (pow K (total a) *ℤ s) *ℤ pow (pos Q) (d - total a) *ℤ pos Q ≡ (constant_part a g *ℤ pos Q -ℤ pos (linear_part a g) *ℤ K) *ℤ pow (pos Q) d
line_term a g s K d Q h k at_none at-single = elim (kind a g h) [
  | none e c l ↦ rw (at_none e, c, l, e, pow_zero, Nat.sub-zero) (ring (g ∷ pos Q ∷ K ∷ pow (pos Q) d ∷ []) (λ g q k p. g ⊗ (# 1 ⊗ # 1) ⊗ p ⊗ q ≐ (g ⊗ q ⊖ # 0 ⊗ k) ⊗ p) tt)
  | single e c l ↦
      let i : d ≡ suc (d - 1) = omega arith in let p : pow (pos Q) d ≡ pow (pos Q) (d - 1) *ℤ pos Q = ap (pow (pos Q)) i ∙ pow_suc (pos Q) (d - 1) in
      let r : g *ℤ (K *ℤ s) *ℤ pow (pos Q) (d - 1) *ℤ pos Q ≡ g *ℤ s *ℤ (K *ℤ pow (pos Q) (d - 1) *ℤ pos Q) =
      ring (g ∷ s ∷ K ∷ pow (pos Q) (d - 1) ∷ pos Q ∷ []) (λ g s k p q. g ⊗ (k ⊗ s) ⊗ p ⊗ q ≐ g ⊗ s ⊗ (k ⊗ p ⊗ q)) tt in
      rw (c, l, e, pow_one, p, r, at-single e) (ring (pos (nat_abs g) ∷ pos Q ∷ K ∷ pow (pos Q) (d - 1) ∷ []) (λ g q k p. ⊝ g ⊗ (k ⊗ p ⊗ q) ≐ (# 0 ⊗ q ⊖ g ⊗ k) ⊗ (p ⊗ q)) tt)
  | flat z c l ↦ rw (c, l, z)
      (ring (s ∷ pow K (total a) ∷ pow (pos Q) (d - total a) ∷ pos Q ∷ K ∷ pow (pos Q) d ∷ []) (λ s x y q k p. # 0 ⊗ (x ⊗ s) ⊗ y ⊗ q ≐ (# 0 ⊗ q ⊖ # 0 ⊗ k) ⊗ p) tt)
]

-- ---- all of them
module _ (F : Polynomial) (u : Point) (H : ℕ) (straight : bend F u H ≡ 0) where
  -- G(0), and the sum of the |G(a)| over |a| = 1
  constant : ℤ
  constant = sum (indices F) (λ a. constant_part a (local F u H a))

  linear : ℕ
  linear = sumℕ (indices F) (λ a. linear_part a (local F u H a))

  unbent : {a : List ℕ} → Memᴰ a (indices F) → bent a (local F u H a) ≡ 0
  unfolding bend
  unbent m = let k = sumℕ_member (λ a. bent a (local F u H a)) m in omega arith

  lower_is : (mode : Mode) → lower F mode u H ≡ constant -ℤ pos linear
  unfolding lower constant linear
  lower_is mode = sum_cong (indices F) (λ a m. low_parts mode a (local F u H a) (unbent m)) ∙ simp (sum-+, pos_sumℕ, neg_ℤ_sum)

  upper_is : (mode : Mode) → upper F mode u H ≡ constant +ℤ pos linear
  unfolding upper constant linear
  upper_is mode = sum_cong (indices F) (λ a m. high_parts mode a (local F u H a) (unbent m)) ∙ simp (sum-+, pos_sumℕ)

  -- the value at Q u + H K σ, times Q
  line_value : (K : ℤ) (Q : ℕ) → let σ = turning F.variables (local F u H) in
      value F (λ v. pos Q *ℤ u v +ℤ pos H *ℤ (K *ℤ σ v)) Q *ℤ pos Q ≡ (constant *ℤ pos Q -ℤ pos linear *ℤ K) *ℤ pow (pos Q) F.degree
  unfolding constant linear
  line_value K Q =
      let n = F.variables in let d = F.degree in let I = indices F in let G = local F u H in let σ = turning n G in
      rw (local_formula F u H (λ v. K *ℤ σ v) Q, sum-*ℤ) (sum_cong I (λ a m. let (l, s) = vectors_fit n d m in
      ap (λ y. G a *ℤ y *ℤ pow (pos Q) (d - total a) *ℤ pos Q) (powers-*ℤ a K σ)
      ∙ line_term a (G a) (powers σ a) K d Q (unbent m) s (powers_zero a σ) (turning_linear n G a l))
      ∙ simp (← sum-*ℤ, sum-+, ← neg_ℤ_sum, pos_sumℕ))

  -- lower + upper is twice the constant, and upper - lower twice the linear part
  sum_is : (mode : Mode) → lower F mode u H +ℤ upper F mode u H ≡ pos 2 *ℤ constant
  sum_is mode = rw (lower_is mode, upper_is mode) (ring (constant ∷ pos linear ∷ []) (λ c l. c ⊖ l ⊕ (c ⊕ l) ≐ # 2 ⊗ c) tt)

  difference_is : (mode : Mode) → upper F mode u H -ℤ lower F mode u H ≡ pos (2 * linear)
  difference_is mode = rw (lower_is mode, upper_is mode) (ring (constant ∷ pos linear ∷ []) (λ c l. c ⊕ l ⊖ (c ⊖ l) ≐ # 2 ⊗ l) tt)

  -- |constant| ≤ linear
  enclosed : (mode : Mode) → lower F mode u H ≤ℤ pos 0 → pos 0 ≤ℤ upper F mode u H → nat_abs constant ≤ linear
  enclosed mode lo up = nat_abs_bound {a = constant}
      (≤ℤ_by up (rw (upper_is mode) (ring (constant ∷ pos linear ∷ []) (λ c l. c ⊖ ⊝ l ≐ c ⊕ l ⊖ # 0) tt)))
      (≤ℤ_by lo (rw (lower_is mode) (ring (constant ∷ pos linear ∷ []) (λ c l. l ⊖ c ≐ # 0 ⊖ (c ⊖ l)) tt)))

-- ---- the point lies in the box, and the value there is zero
module _ (F : Polynomial) (u : Point) (H : ℕ) (straight : bend F u H ≡ 0) (mode : Mode) (lo : lower F mode u H ≤ℤ pos 0) (up : pos 0 ≤ℤ upper F mode u H) where
  C : ℤ
  C = constant F u H straight

  L : ℕ
  L = linear F u H straight

  small : nat_abs C ≤ L
  unfolding C L
  small = enclosed F u H straight mode lo up

  denominator_is : zero_denominator F mode u H ≡ max 1 (2 * L)
  unfolding zero_denominator L
  denominator_is = rw (difference_is F u H straight mode)

  pub zero_in_box : InBox F u H (zero_point F mode u H) (zero_denominator F mode u H)
  unfolding zero_point C
  zero_in_box v i =
      let Q = zero_denominator F mode u H in let K = lower F mode u H +ℤ upper F mode u H in let σ = turning F.variables (local F u H) v in
      let k : nat_abs K ≤ Q = rw (sum_is F u H straight mode, denominator_is, nat_abs-*ℤ (pos 2) C) (let s = small in omega arith) in
      rw (ring ((pos Q *ℤ u v) ∷ (pos H *ℤ (K *ℤ σ)) ∷ []) (λ x y. x ⊕ y ⊖ x ≐ y) tt, nat_abs-*ℤ (pos H) (K *ℤ σ), nat_abs-*ℤ K σ, nat_abs_against _, Nat.mul-one, Nat.mul_comm H) (Nat.mul-le-mul_right H k)

  -- constant Q = linear (lower + upper)
  balanced : C *ℤ pos (zero_denominator F mode u H) -ℤ pos L *ℤ (lower F mode u H +ℤ upper F mode u H) ≡ pos 0
  unfolding C
  balanced = rw (denominator_is, sum_is F u H straight mode) (go L refl)
    where
      go : (l : ℕ) → L ≡ l → C *ℤ pos (max 1 (2 * L)) -ℤ pos L *ℤ (pos 2 *ℤ C) ≡ pos 0
      go zero e = let s = small in rw (nat_abs_zero C (omega arith)) (ring (pos (max 1 (2 * L)) ∷ pos L ∷ []) (λ q l. # 0 ⊗ q ⊖ l ⊗ (# 2 ⊗ # 0) ≐ # 0) tt)
      go (suc l) e = let q : max 1 (2 * L) ≡ 2 * L = omega arith in rw q (ring (C ∷ pos L ∷ []) (λ c l. c ⊗ (# 2 ⊗ l) ⊖ l ⊗ (# 2 ⊗ c) ≐ # 0) tt)

  pub zero_positive : 1 ≤ zero_denominator F mode u H
  zero_positive = rw denominator_is (omega arith)

  pub zero_vanishes : value F (zero_point F mode u H) (zero_denominator F mode u H) ≡ pos 0
  unfolding zero_point C L
  zero_vanishes =
      let Q = zero_denominator F mode u H in let K = lower F mode u H +ℤ upper F mode u H in let x = zero_point F mode u H in
      let z : pos Q *ℤ value F x Q ≡ pos Q *ℤ pos 0 = *ℤ_comm (pos Q) (value F x Q) ∙ line_value F u H straight K Q ∙ rw balanced (zero-*ℤ (pow (pos Q) F.degree) ∙ sym (*ℤ-zero (pos Q))) in
      *ℤ_cancel_l (pos_mono_< zero_positive) z

  pub meets : Meets F u H
  meets = record { x = zero_point F mode u H; Q = zero_denominator F mode u H; positive = zero_positive; inside = zero_in_box; vanishes = zero_vanishes }
