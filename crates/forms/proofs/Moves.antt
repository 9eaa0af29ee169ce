-- The local form by moving one variable and then the other; and the sizes of what that goes through.
use mathlib.Core.Path.{◌≡◌, sym, ◌∙◌, ap}
use mathlib.Core.List.{[], ◌∷◌}
use Prim.Native.Nat.{ℕ, suc, ◌+◌, ◌*◌, ◌-◌, ◌^◌, ◌≤◌, ◌<◌}
use native.Mathlib.Nat as Nat
use native.Mathlib.Omega.{arith}
use lib.IntN.{ℤ, pos, ◌*ℤ◌, nat_abs, pow, zero-*ℤ, *ℤ-zero}
use Rattle.algebra.specs.Sum.{sum, sumℕ, ◌⋯◌}
use Rattle.algebra.specs.Binomial.{choose, entry}
use Rattle.algebra.specs.Triangle.{triangle}
use Rattle.algebra.proofs.Power.{pow_+, one_pow}
use Rattle.algebra.proofs.Absolute.{nat_abs-*ℤ}
use Rattle.algebra.proofs.Ring.{ring, ◌⊗◌, #◌, ◌≐◌}
use Rattle.algebra.proofs.Sum.{sum_cong, sum_zero, sum-*ℤ, sumℕ_cong, sumℕ_mono, sumℕ_member, *-sumℕ, nat_abs_sum_le}
use Rattle.algebra.proofs.Run.{⋯_member, member_⋯, sum_⋯_from, sum_⋯_upto, sumℕ_span_part}
use Rattle.algebra.proofs.Binomial.{entry_over, entry_size}
use Rattle.algebra.proofs.Horner.{still}
use Rattle.forms.specs.Vectors.{total}
use Rattle.forms.specs.Points.{powersℕ}
use Rattle.forms.specs.Polynomial.{scaled}
use Rattle.forms.specs.Weight.{weight, majorant}
use Rattle.forms.specs.Plane.{plane, along, across, moved}
use Rattle.forms.proofs.Plane.{sumℕ_plane, scale_page}
use Rattle.forms.proofs.Size.{weight_majorants}

-- ---- the powers of the moved variable below b give nothing to b
module _ (d : ℕ) (f : ℕ → ℕ → ℤ) (v : ℤ) where
  along_from : (i b : ℕ) → along d f v i b ≡ sum (b ⋯ (d - i)) (λ j. f i j *ℤ entry v (pos 1) j b)
  unfolding along
  along_from i b = sum_⋯_from b (d - i) _ (λ j l. ap (λ x. f i j *ℤ x) (entry_over v (pos 1) j b l) ∙ *ℤ-zero (f i j))

  along_over : (i b : ℕ) → d - i < b → along d f v i b ≡ pos 0
  unfolding along
  along_over i b l = sum_cong (0 ⋯ (d - i)) (λ j m. let p = ⋯_member 0 (d - i) m in ap (λ x. f i j *ℤ x) (entry_over v (pos 1) j b (omega arith)) ∙ *ℤ-zero (f i j)) ∙ sum_zero (0 ⋯ (d - i))

  -- both variables moved, in the order of the table
  both_moved : (u : ℤ) (a b : ℕ) → across d (along d f v) u a b ≡ sum (a ⋯ d) (λ i. sum (b ⋯ (d - i)) (λ j. f i j *ℤ entry v (pos 1) j b) *ℤ entry u (pos 1) i a)
  unfolding across
  both_moved u a b =
      let t : ℕ → ℤ = λ i. along d f v i b *ℤ entry u (pos 1) i a in
      let all : sum (0 ⋯ (d - b)) t ≡ sum (0 ⋯ d) t = sum_⋯_upto (d - b) d t (omega arith) (λ i l k. ap (λ x. x *ℤ entry u (pos 1) i a) (along_over i b (omega arith)) ∙ zero-*ℤ (entry u (pos 1) i a)) in
      all ∙ sum_⋯_from a d t (λ i l. ap (λ x. along d f v i b *ℤ x) (entry_over u (pos 1) i a l) ∙ *ℤ-zero (along d f v i b))
      ∙ sum_cong (a ⋯ d) (λ i m. ap (λ x. x *ℤ entry u (pos 1) i a) (along_from i b))

-- ---- the local form of a table: the second variable moved, then the first, and then each place times its power of the half-side
module _ (d : ℕ) (f : ℕ → ℕ → ℤ) (u v : ℤ) where
  pub moved_both : (a b : ℕ) → across d (along d f v) u a b ≡ moved d f u v (pos 1) a b
  unfolding entry moved
  moved_both a b = both_moved d f v u a b ∙ sum_cong (a ⋯ d) (λ i m. rw sum-*ℤ (sum_cong (b ⋯ (d - i)) (λ j l. rw (pow_+ (pos 1) a b)
      (ring (f i j ∷ pos (choose i a) ∷ pos (choose j b) ∷ pow u (i - a) ∷ pow v (j - b) ∷ pow (pos 1) a ∷ pow (pos 1) b ∷ []) (λ c x y u v g k. c ⊗ (y ⊗ v ⊗ k) ⊗ (x ⊗ u ⊗ g) ≐ c ⊗ x ⊗ y ⊗ u ⊗ v ⊗ (g ⊗ k)) tt))))

  pub moved_scaled : (h : ℤ) (a b : ℕ) → moved d f u v h a b ≡ moved d f u v (pos 1) a b *ℤ pow h (a + b)
  unfolding moved
  moved_scaled h a b = sym (sum-*ℤ (a ⋯ d) _ (pow h (a + b)) ∙ sum_cong (a ⋯ d) (λ i m. sum-*ℤ (b ⋯ (d - i)) _ (pow h (a + b)) ∙ sum_cong (b ⋯ (d - i)) (λ j l. rw (one_pow (a + b))
      (ring (f i j ∷ pos (choose i a) ∷ pos (choose j b) ∷ pow u (i - a) ∷ pow v (j - b) ∷ pow h (a + b) ∷ []) (λ c x y u v g. c ⊗ x ⊗ y ⊗ u ⊗ v ⊗ # 1 ⊗ g ≐ c ⊗ x ⊗ y ⊗ u ⊗ v ⊗ g) tt))))

-- ---- a table moved by 0 is what it was
module _ (d : ℕ) (f : ℕ → ℕ → ℤ) where
  pub along_still : (i b : ℕ) → i + b ≤ d → along d f (pos 0) i b ≡ f i b
  unfolding along
  along_still i b l = still (f i) (d - i) b (omega arith)

  pub across_still : (a b : ℕ) → a + b ≤ d → across d f (pos 0) a b ≡ f a b
  unfolding across
  across_still a b l = still (λ i. f i b) (d - b) a (omega arith)

-- what is moved is the triangle alone
pub along_agree : (d : ℕ) (f g : ℕ → ℕ → ℤ) (v : ℤ) → ((i j : ℕ) → i + j ≤ d → f i j ≡ g i j) → (i b : ℕ) → i ≤ d → along d f v i b ≡ along d g v i b
unfolding along
along_agree d f g v e i b l = sum_cong (0 ⋯ (d - i)) (λ j m. let k = ⋯_member 0 (d - i) m in ap (λ x. x *ℤ entry v (pos 1) j b) (e i j (omega arith)))

pub across_agree : (d : ℕ) (f g : ℕ → ℕ → ℤ) (u : ℤ) → ((i j : ℕ) → i + j ≤ d → f i j ≡ g i j) → (a b : ℕ) → b ≤ d → across d f u a b ≡ across d g u a b
unfolding across
across_agree d f g u e a b l = sum_cong (0 ⋯ (d - b)) (λ i m. let k = ⋯_member 0 (d - b) m in ap (λ x. x *ℤ entry u (pos 1) i a) (e i b (omega arith)))

pub moved_agree : (d : ℕ) (f g : ℕ → ℕ → ℤ) (u v h : ℤ) → ((i j : ℕ) → i + j ≤ d → f i j ≡ g i j) → (a b : ℕ) → moved d f u v h a b ≡ moved d g u v h a b
unfolding moved
moved_agree d f g u v h e a b = sum_cong (a ⋯ d) (λ i m. sum_cong (b ⋯ (d - i)) (λ j n.
    let k = ⋯_member a d m in let l = ⋯_member b (d - i) n in ap (λ x. x *ℤ pos (choose i a) *ℤ pos (choose j b) *ℤ pow u (i - a) *ℤ pow v (j - b) *ℤ pow h (a + b)) (e i j (omega arith))))

pub moved_still : (d : ℕ) (f : ℕ → ℕ → ℤ) (a b : ℕ) → a + b ≤ d → moved d f (pos 0) (pos 0) (pos 1) a b ≡ f a b
moved_still d f a b l = sym (moved_both d f (pos 0) (pos 0) a b) ∙ across_agree d (along d f (pos 0)) f (pos 0) (along_still d f) a b (omega arith) ∙ across_still d f a b l

module _ (d S : ℕ) (A : ℕ → ℕ → ℤ) (R : ℕ → ℕ) where
  -- |A(i,j)| S^(d-i-j) (S Rx)^i (S Ry)^j, of which the weight is the sum
  majorant_plane : (i j : ℕ) → majorant (plane d S A) R (i ∷ j ∷ []) ≡ nat_abs (A i j *ℤ pow (pos S) (d - i - j)) * ((S * R 0) ^ i * (S * R 1) ^ j)
  unfolding majorant scaled total powersℕ
  majorant_plane i j = rw (Nat.add-zero, Nat.sub-add-eq, Nat.mul-one)

module _ (d k : ℕ) (A : ℕ → ℕ → ℤ) where
  -- ---- the weight, as the sum over the scaled coefficients
  pub scaled_weight : (R : ℕ → ℕ) → triangle d (λ i j. nat_abs (A i j *ℤ pos (2 ^ ((k + 1) * (d - i - j)))) * ((2 ^ (k + 1) * R 0) ^ i * (2 ^ (k + 1) * R 1) ^ j)) ≡ weight (plane d (2 ^ (k + 1)) A) R
  scaled_weight R = let S = 2 ^ (k + 1) in sym (weight_majorants (plane d S A) R ∙ sumℕ_plane d (majorant (plane d S A) R)
      ∙ sumℕ_cong (0 ⋯ d) (λ i m. sumℕ_cong (0 ⋯ (d - i)) (λ j l. majorant_plane d S A R i j
      ∙ ap (λ x. nat_abs (A i j *ℤ x) * ((S * R 0) ^ i * (S * R 1) ^ j)) (scale_page k (d - i - j)))))

-- ---- sizes: with m and n for the two variables, what is moved first and what is moved then is at most the sum of |f(i,j)| m^i n^j over the triangle
module _ (d : ℕ) (f : ℕ → ℕ → ℤ) (m n : ℕ) where
  -- a row, before the second variable is moved
  pub along_load : 1 ≤ m → (i : ℕ) → i ≤ d → sumℕ (0 ⋯ (d - i)) (λ j. nat_abs (f i j) * n ^ j) ≤ triangle d (λ i j. nat_abs (f i j) * (m ^ i * n ^ j))
  along_load o i l = Nat.le_trans
      (sumℕ_mono (0 ⋯ (d - i)) (λ j k. Nat.mul-le-mul_left (nat_abs (f i j)) (Nat.le_trans (Nat.le_of_eq (sym (Nat.one-mul (n ^ j)))) (Nat.mul-le-mul_right (n ^ j) (Nat.one-le-pow i m o)))))
      (sumℕ_member (λ i. sumℕ (0 ⋯ (d - i)) (λ j. nat_abs (f i j) * (m ^ i * n ^ j))) (member_⋯ 0 d i (omega arith) l))

  -- a column, before the first is
  one_row : (v : ℤ) → nat_abs v + 1 ≤ n → (i b : ℕ) → nat_abs (along d f v i b) * m ^ i ≤ sumℕ (0 ⋯ (d - i)) (λ j. nat_abs (f i j) * (m ^ i * n ^ j))
  unfolding along
  one_row v l i b =
      let r : nat_abs (along d f v i b) ≤ sumℕ (0 ⋯ (d - i)) (λ j. nat_abs (f i j) * n ^ j) = nat_abs_sum_le (0 ⋯ (d - i)) _
      (λ j k. rw nat_abs-*ℤ (Nat.mul-le-mul_left (nat_abs (f i j)) (Nat.le_trans (entry_size v (pos 1) j b) (Nat.pow-le-pow_left l j)))) in
      Nat.le_trans (Nat.mul-le-mul_right (m ^ i) r) (Nat.le_of_eq (Nat.mul_comm _ (m ^ i) ∙ *-sumℕ (m ^ i) (0 ⋯ (d - i)) (λ j. nat_abs (f i j) * n ^ j)
      ∙ sumℕ_cong (0 ⋯ (d - i)) (λ j k. Nat.mul_left_comm (m ^ i) (nat_abs (f i j)) (n ^ j))))

  pub across_load : (v : ℤ) → nat_abs v + 1 ≤ n → (b : ℕ) → sumℕ (0 ⋯ (d - b)) (λ i. nat_abs (along d f v i b) * m ^ i) ≤ triangle d (λ i j. nat_abs (f i j) * (m ^ i * n ^ j))
  unfolding ◌⋯◌
  across_load v l b = Nat.le_trans (sumℕ_mono (0 ⋯ (d - b)) (λ i k. one_row v l i b)) (sumℕ_span_part 0 (suc (d - b)) (λ i. sumℕ (0 ⋯ (d - i)) (λ j. nat_abs (f i j) * (m ^ i * n ^ j))) (omega arith))
