-- The parts of a box: a box of half-side 2 H and centre u has the parts of half-side H and centres u + H σ, for signs σ.
use mathlib.Core.Path.{◌≡◌, sym, ◌∙◌, ap}
use mathlib.Core.List.{List, [], ◌∷◌}
use Prim.Native.Nat.{ℕ, ◌*◌, ◌^◌, ◌≤◌}
use native.Mathlib.Nat as Nat
use native.Mathlib.Omega.{arith}
use lib.IntN.{pos, ◌+ℤ◌, ◌-ℤ◌, ◌*ℤ◌, neg_ℤ, nat_abs, pow}
use lib.ListN.{length}
use Rattle.algebra.specs.Sum.{sum, sumℕ}
use Rattle.algebra.proofs.Integer.{≡_by, *ℤ_assoc}
use Rattle.algebra.proofs.Power.{*ℤ_pow}
use Rattle.algebra.proofs.Absolute.{nat_abs_neg_ℤ, nat_abs-*ℤ, nat_abs_pow, nat_abs-+ℤ}
use Rattle.algebra.proofs.Ring.{ring, ◌⊕◌, ◌⊖◌, ◌⊗◌, ⊝◌, ◌≐◌}
use Rattle.algebra.proofs.Sum.{sum_cong, sum_swap, *ℤ-sum, sum-*ℤ, sumℕ_mono}
use Rattle.forms.specs.Vectors.{total, chooses, ◌∸◌}
use Rattle.forms.specs.Points.{Point, powers}
use Rattle.forms.specs.Polynomial.{Polynomial, Index, indices, scaled}
use Rattle.forms.specs.Box.{InBox, Signs, corner}
use Rattle.forms.specs.LocalForm.{local}
use Rattle.forms.specs.Weight.{weight, Limited}
use Rattle.forms.specs.Straight.{against}
use Rattle.forms.proofs.Vectors.{vectors_fit, chooses_≤_pow, length-∸}
use Rattle.forms.proofs.Points.{powers_signs}
use Rattle.forms.proofs.Shift.{shifts, shifts_+, shifts_*ℤ}
use Rattle.forms.proofs.Taylor.{taylor, local_taylor}
use Rattle.forms.proofs.Signs.{nat_abs_against, against_near}
use Rattle.forms.proofs.Size.{local_sum_size}

-- ---- the form of a part, from the form of the whole
-- first each place is halved |a| times, exactly
pub local_half : (F : Polynomial) (u : Point) (H : ℕ) (a : List ℕ) → local F u (2 * H) a ≡ pow (pos 2) (total a) *ℤ local F u H a
local_half F u H a = rw (local_taylor F u (2 * H), local_taylor F u H, *ℤ_pow (pos 2) (pos H))
    (ring (taylor F u a ∷ pow (pos 2) (total a) ∷ pow (pos H) (total a) ∷ []) (λ t c h. t ⊗ (c ⊗ h) ≐ c ⊗ (t ⊗ h)) tt)

-- the Taylor coefficients at u + t, from those at u
taylor_moved : (F : Polynomial) (u t : Point) (a : List ℕ) → taylor F (λ v. u v +ℤ t v) a ≡ sum (indices F) (λ b. taylor F u b *ℤ shifts t b a)
unfolding taylor
taylor_moved F u t a =
    sum_cong (indices F) (λ e m. let (l, s) = vectors_fit F.variables F.degree m in
    ap (λ x. scaled F e *ℤ x) (rw l at (shifts_+ e F.degree u t a s)) ∙ *ℤ-sum (scaled F e) (indices F) (λ b. shifts u e b *ℤ shifts t b a))
    ∙ sum_swap (indices F) (indices F) (λ e b. scaled F e *ℤ (shifts u e b *ℤ shifts t b a))
    ∙ simp (sum-*ℤ, *ℤ_assoc)

-- then it is shifted by σ: the part has the sum of G(e) C(e,a) σ^(e-a), G being the halved form
pub local_part : (F : Polynomial) (u : Point) (H : ℕ) (σ : Point) (a : List ℕ) → Index F a →
    local F (corner u H σ) H a ≡ sum (indices F) (λ e. local F u H e *ℤ pos (chooses e a) *ℤ powers σ (e ∸ a))
unfolding shifts
local_part F u H σ a j =
    let n = F.variables in let t : Point = λ v. pos H *ℤ σ v in
    rw (local_taylor F (corner u H σ) H, taylor_moved F u t, sum-*ℤ) (sum_cong (indices F) (λ e i. let l = (vectors_fit n F.degree i).0 in
    rw (local_taylor F u H e) (≡_by (ap (λ x. taylor F u e *ℤ x) (shifts_*ℤ e a (total a) (total e) (pos H) σ (l ∙ sym j.0) sym))
    (ring (taylor F u e ∷ shifts t e a ∷ pos (chooses e a) ∷ powers σ (e ∸ a) ∷ pow (pos H) (total a) ∷ pow (pos H) (total e) ∷ [])
    (λ t x c y p q. t ⊗ x ⊗ p ⊖ t ⊗ q ⊗ c ⊗ y ≐ t ⊗ (x ⊗ p) ⊖ t ⊗ (c ⊗ y ⊗ q)) tt))))

module _ (F : Polynomial) (u : Point) (H : ℕ) (σ : Point) (s : Signs F σ) where
  -- the terms of that sum are together at most the weight of the whole
  pub part_terms_size : (R : ℕ → ℕ) → Limited F u (2 * H) R → (a : List ℕ) → sumℕ (indices F) (λ e. nat_abs (local F u H e *ℤ pos (chooses e a) *ℤ powers σ (e ∸ a))) ≤ weight F R
  part_terms_size R r a = Nat.le_trans (sumℕ_mono (indices F) (λ e m.
      let l : length (e ∸ a) ≡ F.variables = length-∸ e a ∙ (vectors_fit F.variables F.degree m).0 in
      let g = local F u H e in
      let c = Nat.mul-le-mul (Nat.mul-le-mul_left (nat_abs g) (chooses_≤_pow e a)) (powers_signs (e ∸ a) σ (rw l s)) in
      rw (local_half F u H e, nat_abs-*ℤ (g *ℤ pos (chooses e a)), nat_abs-*ℤ g, nat_abs-*ℤ (pow (pos 2) (total e)), nat_abs_pow, Nat.mul_comm (2 ^ total e)) (rw Nat.mul-one at c)))
      (local_sum_size F u (2 * H) R r)

  -- ---- the part is within the limits of the whole, and its points are the whole's
  pub part_limited : (R : ℕ → ℕ) → Limited F u (2 * H) R → Limited F (corner u H σ) H R
  part_limited R r v i =
      let t = rw (nat_abs-*ℤ (pos H), s v i, Nat.mul-one) at (nat_abs-+ℤ (u v) (pos H *ℤ σ v)) in
      let b = r v i in omega arith

  pub part_in_whole : (x : Point) (Q : ℕ) → InBox F (corner u H σ) H x Q → InBox F u (2 * H) x Q
  part_in_whole x Q b v i =
      let e : x v -ℤ pos Q *ℤ u v ≡ (x v -ℤ pos Q *ℤ corner u H σ v) +ℤ pos (Q * H) *ℤ σ v =
      ring (x v ∷ pos Q ∷ pos H ∷ u v ∷ σ v ∷ []) (λ x q h u s. x ⊖ q ⊗ u ≐ x ⊖ q ⊗ (u ⊕ h ⊗ s) ⊕ q ⊗ h ⊗ s) tt in
      let t = rw (nat_abs-*ℤ (pos (Q * H)), s v i, Nat.mul-one) at (nat_abs-+ℤ (x v -ℤ pos Q *ℤ corner u H σ v) (pos (Q * H) *ℤ σ v)) in
      let c = b v i in rw e (omega arith)

-- ---- and every point of the whole is in a part
pub whole_in_parts : (F : Polynomial) (u : Point) (H : ℕ) (x : Point) (Q : ℕ) → InBox F u (2 * H) x Q → (σ : Point) × Signs F σ × InBox F (corner u H σ) H x Q
whole_in_parts F u H x Q b = (σ, (λ v i. nat_abs_against (back v)), inside)
  where
    -- Q u - x
    back : Point
    back v = neg_ℤ (x v -ℤ pos Q *ℤ u v)

    σ : Point
    σ v = against (back v)

    inside : InBox F (corner u H σ) H x Q
    inside v i =
        let e : x v -ℤ pos Q *ℤ corner u H σ v ≡ neg_ℤ (back v +ℤ pos (Q * H) *ℤ σ v) =
        ring (x v ∷ pos Q ∷ pos H ∷ u v ∷ σ v ∷ []) (λ x q h u s. x ⊖ q ⊗ (u ⊕ h ⊗ s) ≐ ⊝ (⊝ (x ⊖ q ⊗ u) ⊕ q ⊗ h ⊗ s)) tt in
        let near = b v i in let same = nat_abs_neg_ℤ (x v -ℤ pos Q *ℤ u v) in
        rw (e, nat_abs_neg_ℤ (back v +ℤ pos (Q * H) *ℤ σ v)) (against_near (back v) (Q * H) (omega arith))
