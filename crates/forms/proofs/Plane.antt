-- The definitions in the plane are the page's formulas, with its letters and its ranges.
use mathlib.Core.Path.{◌≡◌, refl, sym, ◌∙◌, ap}
use mathlib.Core.Bool.{Bool, true, false, ◌&&◌, cond}
use mathlib.Core.List.{List, [], ◌∷◌}
use Prim.Native.Nat.{ℕ, suc, ◌+◌, ◌*◌, ◌-◌, ◌^◌, ◌%◌, ◌≤◌, ◌<◌}
use mathlib.Core.Logic.{◌↔◌, ◌⊎◌, inl, inr}
use native.Mathlib.Nat as Nat
use native.Mathlib.Omega.{arith}
use lib.Dec.{leb, eqb}
use lib.IntN.{ℤ, pos, negsuc, ◌+ℤ◌, ◌-ℤ◌, ◌*ℤ◌, neg_ℤ, nat_abs, pow, zero-*ℤ, *ℤ-zero}
use lib.Pow.{pow-add}
use lib.Signed.{◌≤ℤ◌}
use Rattle.algebra.specs.Sum.{sum, sumℕ, ◌⋯◌}
use Rattle.algebra.specs.Binomial.{choose}
use Rattle.algebra.specs.MinMax.{minℤ, maxℤ}
use Rattle.algebra.proofs.Integer.{*ℤ_idr, *ℤ_assoc}
use Rattle.algebra.proofs.Power.{pos_pow, pow_*}
use Rattle.algebra.proofs.Binomial.{choose_over}
use Rattle.algebra.proofs.Ring.{ring, ◌⊕◌, ◌⊖◌, ◌⊗◌, ⊝◌, #◌, ◌≐◌}
use Rattle.algebra.proofs.Sum.{sum_cong, sum_zero, pos_sumℕ}
use Rattle.algebra.proofs.Run.{sum_⋯_from}
use Rattle.forms.specs.Vectors.{total, vectors, chooses, ◌∸◌, all_even}
use Rattle.forms.specs.Points.{Point, Each, powers, powersℕ}
use Rattle.forms.specs.Polynomial.{Index, scaled, value_term, value}
use Rattle.forms.specs.Box.{InBox, Signs, corner}
use Rattle.forms.specs.LocalForm.{local}
use Rattle.forms.specs.Bounds.{Mode, affine, centred, even_rule, low, high, lower, upper, bent, bend}
use Rattle.forms.specs.Weight.{weight}
use Rattle.forms.specs.Plane.{pair, plane, even_pair, AtCorners, moved_term, moved}
use Rattle.forms.proofs.Vectors.{sum_vectors_zero, sum_vectors_suc}
use Rattle.forms.proofs.Points.{each_cons}
use Rattle.forms.proofs.Coordinates.{value_agree}
use Rattle.forms.proofs.Overshoot.{lower_over_corners, upper_over_corners}

-- ---- two variables
pub both : (P : ℕ → Type 0) → P 0 → P 1 → Each 2 P
both P p q = each_cons P p (each_cons (λ v. P (suc v)) q (λ v i. absurd (Nat.not-suc-le-zero i)))

-- (i,j) with i + j ≤ d is an index
pub pair_index : (d S : ℕ) (A : ℕ → ℕ → ℤ) (i j : ℕ) → i + j ≤ d → Index (plane d S A) (i ∷ j ∷ [])
unfolding total
pair_index d S A i j h = (refl, rw Nat.add-zero h)

-- a sum over the vectors is the sum over i = 0..d and within it j = 0..d-i
pub sum_plane : (d : ℕ) (f : List ℕ → ℤ) → sum (vectors 2 d) f ≡ sum (0 ⋯ d) (λ i. sum (0 ⋯ (d - i)) (λ j. f (i ∷ j ∷ [])))
sum_plane d f = sum_vectors_suc 1 d f ∙ sum_cong (0 ⋯ d) (λ i m. sum_vectors_suc 0 (d - i) (λ e. f (i ∷ e))
    ∙ sum_cong (0 ⋯ (d - i)) (λ j k. sum_vectors_zero (d - i - j) (λ e. f (i ∷ j ∷ e))))

pub sumℕ_plane : (d : ℕ) (f : List ℕ → ℕ) → sumℕ (vectors 2 d) f ≡ sumℕ (0 ⋯ d) (λ i. sumℕ (0 ⋯ (d - i)) (λ j. f (i ∷ j ∷ [])))
sumℕ_plane d f =
    let e : pos (sumℕ (vectors 2 d) f) ≡ pos (sumℕ (0 ⋯ d) (λ i. sumℕ (0 ⋯ (d - i)) (λ j. f (i ∷ j ∷ [])))) = simp pos_sumℕ (sum_plane d (λ e. pos (f e))) in
    ap nat_abs e

-- ---- the scale: S^n = 2^((k+1) n) where S = 2^(k+1)
pub scale_page : (k n : ℕ) → pow (pos (2 ^ (k + 1))) n ≡ pos (2 ^ ((k + 1) * n))
scale_page k n = rw (← (pos_pow 2 (k + 1)), ← (pow_* (pos 2) (k + 1) n)) (pos_pow 2 ((k + 1) * n))

pub scale_pageℕ : (k n : ℕ) → (2 ^ (k + 1)) ^ n ≡ 2 ^ ((k + 1) * n)
scale_pageℕ k n = ap nat_abs (sym (pos_pow (2 ^ (k + 1)) n) ∙ scale_page k n)

-- A(i,j) 2^((k+1)(d-i-j))
abbrev page_scaled : ℕ → ℕ → (ℕ → ℕ → ℤ) → ℕ → ℕ → ℤ
page_scaled d k A i j = A i j *ℤ pos (2 ^ ((k + 1) * (d - i - j)))

module _ (d k : ℕ) (A : ℕ → ℕ → ℤ) where
  -- ---- F at M/Q and N/Q, times Q^d
  pub value_plane : (M N : ℤ) (Q : ℕ) → value (plane d (2 ^ (k + 1)) A) (pair M N) Q
      ≡ sum (0 ⋯ d) (λ i. sum (0 ⋯ (d - i)) (λ j. A i j *ℤ pos (2 ^ ((k + 1) * (d - i - j))) *ℤ pow M i *ℤ pow N j *ℤ pow (pos Q) (d - i - j)))
  unfolding value scaled powers total
  value_plane M N Q = simp (value, value_term, scaled, sum_plane, scale_page, *ℤ_idr, *ℤ_assoc, Nat.add-zero, Nat.sub-add-eq)

  -- ---- G(a,b): the sum over i ≥ a and j ≥ b
  all_terms : (U0 V0 : ℤ) (H a b : ℕ) → local (plane d (2 ^ (k + 1)) A) (pair U0 V0) H (a ∷ b ∷ []) ≡ sum (0 ⋯ d) (λ i. sum (0 ⋯ (d - i)) (λ j. moved_term (page_scaled d k A) U0 V0 (pos H) a b i j))
  unfolding local scaled powers chooses ◌∸◌ total
  all_terms U0 V0 H a b = sum_plane d (λ e. _) ∙ sum_cong (0 ⋯ d) (λ i m. sum_cong (0 ⋯ (d - i)) (λ j l.
      let e : d - (i + (j + 0)) ≡ d - i - j = omega arith in let z : a + (b + 0) ≡ a + b = omega arith in
      rw (e, z, scale_page k (d - i - j), Nat.mul-one (choose j b), *ℤ_idr (pow V0 (j - b)))
      (ring (A i j ∷ pos (2 ^ ((k + 1) * (d - i - j))) ∷ pos (choose i a) ∷ pos (choose j b) ∷ pow U0 (i - a) ∷ pow V0 (j - b) ∷ pow (pos H) (a + b) ∷ [])
      (λ k s c e u v h. k ⊗ s ⊗ (c ⊗ e) ⊗ (u ⊗ v) ⊗ h ≐ k ⊗ s ⊗ c ⊗ e ⊗ u ⊗ v ⊗ h) tt)))

  pub local_plane : (U0 V0 : ℤ) (H a b : ℕ) → local (plane d (2 ^ (k + 1)) A) (pair U0 V0) H (a ∷ b ∷ []) ≡ moved d (page_scaled d k A) U0 V0 (pos H) a b
  unfolding moved
  local_plane U0 V0 H a b =
      let t : ℕ → ℕ → ℤ = moved_term (page_scaled d k A) U0 V0 (pos H) a b in
      let first : (i : ℕ) → i < a → sum (0 ⋯ (d - i)) (t i) ≡ pos 0 = λ i l. sum_cong (0 ⋯ (d - i)) (λ j k. simp (choose_over i a l, *ℤ-zero, zero-*ℤ)) ∙ sum_zero (0 ⋯ (d - i)) in
      let second : (i j : ℕ) → j < b → t i j ≡ pos 0 = λ i j l. simp (choose_over j b l, *ℤ-zero, zero-*ℤ) in
      all_terms U0 V0 H a b ∙ sum_⋯_from a d (λ i. sum (0 ⋯ (d - i)) (t i)) first ∙ sum_cong (a ⋯ d) (λ i m. sum_⋯_from b (d - i) (t i) (second i))

  -- ---- the weight: 2^((k+1)d) times the sum of |A(i,j)| Rx^i Ry^j, and of |A(i,j)| R^(i+j) where R is the limit of both variables
  pub weight_axes : (R : ℕ → ℕ) → weight (plane d (2 ^ (k + 1)) A) R ≡ 2 ^ ((k + 1) * d) * sumℕ (0 ⋯ d) (λ i. sumℕ (0 ⋯ (d - i)) (λ j. nat_abs (A i j) * R 0 ^ i * R 1 ^ j))
  unfolding weight powersℕ
  weight_axes R = rw (scale_pageℕ k d) (ap (λ n. 2 ^ ((k + 1) * d) * n) (sumℕ_plane d (λ e. _) ∙ simp (Nat.mul-one, Nat.mul_assoc)))

  pub weight_plane : (R : ℕ) → weight (plane d (2 ^ (k + 1)) A) (λ v. R) ≡ 2 ^ ((k + 1) * d) * sumℕ (0 ⋯ d) (λ i. sumℕ (0 ⋯ (d - i)) (λ j. nat_abs (A i j) * R ^ (i + j)))
  weight_plane R = rw (weight_axes (λ v. R)) (simp (Nat.mul_assoc, ← pow-add))

module _ (d S : ℕ) (A : ℕ → ℕ → ℤ) where
  -- ---- M/Q and N/Q lie in the square
  pub in_plane : (U0 V0 : ℤ) (H : ℕ) (M N : ℤ) (Q : ℕ) →
      ((nat_abs (M -ℤ pos Q *ℤ U0) ≤ Q * H) × (nat_abs (N -ℤ pos Q *ℤ V0) ≤ Q * H)) ↔ InBox (plane d S A) (pair U0 V0) H (pair M N) Q
  in_plane U0 V0 H M N Q = (λ h. both (λ v. nat_abs (pair M N v -ℤ pos Q *ℤ pair U0 V0 v) ≤ Q * H) h.0 h.1, λ b. (b 0 (omega arith), b 1 (omega arith)))

  -- a point's value, by its two coordinates
  pub value_pair : (x : Point) (Q : ℕ) → value (plane d S A) x Q ≡ value (plane d S A) (pair (x 0) (x 1)) Q
  value_pair x Q = value_agree (plane d S A) x (pair (x 0) (x 1)) (both (λ v. x v ≡ pair (x 0) (x 1) v) refl refl) Q

  -- ---- the bounds and the bend: sums over a = 0..d and within it b = 0..d-a
  pub lower_plane : (mode : Mode) (u : Point) (H : ℕ) → lower (plane d S A) mode u H ≡ sum (0 ⋯ d) (λ a. sum (0 ⋯ (d - a)) (λ b. low mode (a ∷ b ∷ []) (local (plane d S A) u H (a ∷ b ∷ []))))
  unfolding lower
  lower_plane mode u H = sum_plane d (λ a. low mode a (local (plane d S A) u H a))

  pub upper_plane : (mode : Mode) (u : Point) (H : ℕ) → upper (plane d S A) mode u H ≡ sum (0 ⋯ d) (λ a. sum (0 ⋯ (d - a)) (λ b. high mode (a ∷ b ∷ []) (local (plane d S A) u H (a ∷ b ∷ []))))
  unfolding upper
  upper_plane mode u H = sum_plane d (λ a. high mode a (local (plane d S A) u H a))

  pub bend_plane : (u : Point) (H : ℕ) → bend (plane d S A) u H ≡ sumℕ (0 ⋯ d) (λ a. sumℕ (0 ⋯ (d - a)) (λ b. bent (a ∷ b ∷ []) (local (plane d S A) u H (a ∷ b ∷ []))))
  unfolding bend
  bend_plane u H = sumℕ_plane d (λ a. bent a (local (plane d S A) u H a))

-- ---- what G(a,b) = g adds to them
even_is : (mode : Mode) (a b : ℕ) → even_rule mode (a ∷ b ∷ []) ≡ even_pair mode a b
unfolding all_even
even_is affine a b = ap (λ t. eqb (a % 2) 0 && t) (and_true (eqb (b % 2) 0))
  where
    and_true : (x : Bool) → x && true ≡ x
    and_true true = refl
    and_true false = refl
even_is centred a b = refl

pub low_plane : (mode : Mode) (a b : ℕ) (g : ℤ) → low mode (a ∷ b ∷ []) g ≡ cond (eqb (a + b) 0) g (cond (even_pair mode a b) (minℤ (pos 0) g) (neg_ℤ (pos (nat_abs g))))
unfolding low total
low_plane mode a b g = rw (Nat.add-zero, even_is mode a b)

pub high_plane : (mode : Mode) (a b : ℕ) (g : ℤ) → high mode (a ∷ b ∷ []) g ≡ cond (eqb (a + b) 0) g (cond (even_pair mode a b) (maxℤ (pos 0) g) (pos (nat_abs g)))
unfolding high total
high_plane mode a b g = rw (Nat.add-zero, even_is mode a b)

pub bent_plane : (a b : ℕ) (g : ℤ) → bent (a ∷ b ∷ []) g ≡ cond (leb 2 (a + b)) (nat_abs g) 0
unfolding bent total
bent_plane a b g = rw Nat.add-zero

-- ---- the four corners
one_sign : (s : ℤ) → nat_abs s ≡ 1 → (s ≡ pos 1) ⊎ (s ≡ negsuc 0)
one_sign (pos n) h = inl (ap pos h)
one_sign (negsuc n) h = inr (ap negsuc (omega arith))

-- what follows at each of them
pub at_each : (U0 V0 : ℤ) (H : ℕ) (P Q : ℤ → ℤ → Type 0) → ((x y : ℤ) → P x y → Q x y) → AtCorners U0 V0 H P → AtCorners U0 V0 H Q
at_each U0 V0 H P Q f (a, b, c, d) = (f _ _ a, f _ _ b, f _ _ c, f _ _ d)

module _ (d S : ℕ) (A : ℕ → ℕ → ℤ) (U0 V0 : ℤ) (H : ℕ) where
  -- what holds of the values at the four corners holds at each corner u + H σ
  pub at_corners : (P : ℤ → Type 0) → AtCorners U0 V0 H (λ x y. P (value (plane d S A) (pair x y) 1)) → (σ : Point) → Signs (plane d S A) σ → P (value (plane d S A) (corner (pair U0 V0) H σ) 1)
  at_corners P h σ s = rw (value_pair d S A (corner (pair U0 V0) H σ) 1) (go (σ 0) (σ 1) (one_sign (σ 0) (s 0 (omega arith))) (one_sign (σ 1) (s 1 (omega arith))))
    where
      up : (X : ℤ) → X +ℤ pos H *ℤ pos 1 ≡ X +ℤ pos H
      up X = ring (X ∷ pos H ∷ []) (λ x h. x ⊕ h ⊗ # 1 ≐ x ⊕ h) tt

      down : (X : ℤ) → X +ℤ pos H *ℤ negsuc 0 ≡ X -ℤ pos H
      down X = ring (X ∷ pos H ∷ []) (λ x h. x ⊕ h ⊗ ⊝ # 1 ≐ x ⊖ h) tt

      go : (x y : ℤ) → (x ≡ pos 1) ⊎ (x ≡ negsuc 0) → (y ≡ pos 1) ⊎ (y ≡ negsuc 0) → P (value (plane d S A) (pair (U0 +ℤ pos H *ℤ x) (V0 +ℤ pos H *ℤ y)) 1)
      go x y (inl e) (inl f) = rw (e, f, up U0, up V0) h.3
      go x y (inl e) (inr f) = rw (e, f, up U0, down V0) h.1
      go x y (inr e) (inl f) = rw (e, f, down U0, up V0) h.2
      go x y (inr e) (inr f) = rw (e, f, down U0, down V0) h.0

  -- where m is at most the four corner values, m - 2 bend ≤ lower; and where m is at least them, upper ≤ m + 2 bend
  pub lower_four_corners : (mode : Mode) (m : ℤ) → AtCorners U0 V0 H (λ x y. m ≤ℤ value (plane d S A) (pair x y) 1) →
      (m -ℤ pos (2 * bend (plane d S A) (pair U0 V0) H)) ≤ℤ lower (plane d S A) mode (pair U0 V0) H
  lower_four_corners mode m h = lower_over_corners (plane d S A) (pair U0 V0) H mode m (at_corners (λ x. m ≤ℤ x) h)

  pub upper_four_corners : (mode : Mode) (m : ℤ) → AtCorners U0 V0 H (λ x y. value (plane d S A) (pair x y) 1 ≤ℤ m) →
      upper (plane d S A) mode (pair U0 V0) H ≤ℤ (m +ℤ pos (2 * bend (plane d S A) (pair U0 V0) H))
  upper_four_corners mode m h = upper_over_corners (plane d S A) (pair U0 V0) H mode m (at_corners (λ x. x ≤ℤ m) h)
