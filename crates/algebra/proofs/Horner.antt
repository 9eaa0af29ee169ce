-- Horner's rule, from the top down: what it holds at first, at each step and at the end, and how large that is.
use mathlib.Core.Path.{◌≡◌, sym, ◌∙◌, ap, ap₂}
use mathlib.Core.List.{[], ◌∷◌}
use Prim.Native.Nat.{ℕ, zero, suc, ◌+◌, ◌*◌, ◌-◌, ◌^◌, ◌≤◌, ◌<◌}
use native.Mathlib.Nat as Nat
use native.Mathlib.Omega.{arith}
use lib.IntN.{ℤ, pos, ◌+ℤ◌, ◌*ℤ◌, nat_abs, *ℤ-zero, +ℤ_comm, +ℤ_idl}
use Rattle.algebra.specs.Sum.{sum, sumℕ, span, ◌⋯◌}
use Rattle.algebra.specs.Binomial.{entry}
use Rattle.algebra.specs.Horner.{shifted, load}
use Rattle.algebra.proofs.Absolute.{nat_abs-*ℤ}
use Rattle.algebra.proofs.Ring.{ring, ◌⊕◌, ◌⊗◌, #◌, ◌≐◌}
use Rattle.algebra.proofs.Sum.{sum_cong, sum-+, sum-*ℤ, sumℕ_cong, sumℕ_mono, *-sumℕ, nat_abs_sum_le}
use Rattle.algebra.proofs.Run.{span_member, sum_span_none, sum_span_first, sum_span_zero, sumℕ_span_first, sumℕ_span_part}
use Rattle.algebra.proofs.Binomial.{entry_over, entry_first, entry_suc_zero, entry_suc, entry_size}

-- ---- the coefficients
module _ (c : ℕ → ℤ) (u h : ℤ) (m : ℕ) where
  -- nothing above the top
  pub shifted_none : (j a : ℕ) → m < j → shifted c u h m j a ≡ pos 0
  unfolding shifted
  shifted_none j a l = sum_span_none j (suc m) _ l

  -- one step down: times u + h t, plus c(j)
  pub shifted_zero : (j : ℕ) → j ≤ m → shifted c u h m j 0 ≡ shifted c u h m (suc j) 0 *ℤ u +ℤ c j *ℤ pos 1
  unfolding shifted
  shifted_zero j l =
      let f : ℕ → ℤ = λ n. c n *ℤ entry u h (n - j) 0 in
      let first : f j ≡ c j *ℤ pos 1 = ap (λ n. c j *ℤ entry u h n 0) (Nat.sub_self j) ∙ ap (λ x. c j *ℤ x) (entry_first u h) in
      let rest : sum (span (suc j) (suc m)) f ≡ sum (span (suc j) (suc m)) (λ n. c n *ℤ entry u h (n - suc j) 0) *ℤ u = rw sum-*ℤ (sum_cong (span (suc j) (suc m)) (λ n k.
      let r = span_member (suc j) (suc m) k in let e : n - j ≡ suc (n - suc j) = omega arith in
      rw (e, entry_suc_zero u h (n - suc j)) (ring (c n ∷ u ∷ entry u h (n - suc j) 0 ∷ []) (λ c u x. c ⊗ (u ⊗ x) ≐ c ⊗ x ⊗ u) tt))) in
      sum_span_first j (suc m) f (omega arith) ∙ ap₂ ◌+ℤ◌ first rest ∙ +ℤ_comm (c j *ℤ pos 1) _

  pub shifted_suc : (j a : ℕ) → j ≤ m → shifted c u h m j (suc a) ≡ shifted c u h m (suc j) (suc a) *ℤ u +ℤ shifted c u h m (suc j) a *ℤ h
  unfolding shifted
  shifted_suc j a l =
      let f : ℕ → ℤ = λ n. c n *ℤ entry u h (n - j) (suc a) in
      let first : f j ≡ pos 0 = ap (λ n. c j *ℤ entry u h n (suc a)) (Nat.sub_self j) ∙ ap (λ x. c j *ℤ x) (entry_over u h 0 (suc a) (omega arith)) ∙ *ℤ-zero (c j) in
      let rest : sum (span (suc j) (suc m)) f ≡ sum (span (suc j) (suc m)) (λ n. c n *ℤ entry u h (n - suc j) (suc a)) *ℤ u +ℤ sum (span (suc j) (suc m)) (λ n. c n *ℤ entry u h (n - suc j) a) *ℤ h =
      simp (sum-*ℤ, ← sum-+) (sum_cong (span (suc j) (suc m)) (λ n k.
      let r = span_member (suc j) (suc m) k in let e : n - j ≡ suc (n - suc j) = omega arith in
      rw (e, entry_suc u h (n - suc j) a) (ring (c n ∷ u ∷ h ∷ entry u h (n - suc j) a ∷ entry u h (n - suc j) (suc a) ∷ []) (λ c u h x y. c ⊗ (h ⊗ x ⊕ u ⊗ y) ≐ c ⊗ y ⊗ u ⊕ c ⊗ x ⊗ h) tt))) in
      sum_span_first j (suc m) f (omega arith) ∙ ap₂ ◌+ℤ◌ first rest ∙ +ℤ_idl _

  -- no power of t above m - j
  pub shifted_over : (j a : ℕ) → m < j + a → shifted c u h m j a ≡ pos 0
  unfolding shifted
  shifted_over j a l = sum_span_zero j (suc m) _ (λ n p q. ap (λ x. c n *ℤ x) (entry_over u h (n - j) a (omega arith)) ∙ *ℤ-zero (c n))

  -- at the end: the sum of c(n) (u + h t)^n
  pub shifted_all : (a : ℕ) → shifted c u h m 0 a ≡ sum (0 ⋯ m) (λ n. c n *ℤ entry u h n a)
  unfolding shifted ◌⋯◌
  shifted_all a = simp Nat.sub-zero

  -- its size
  pub shifted_size : (j a : ℕ) → nat_abs (shifted c u h m j a) ≤ load c (nat_abs u + nat_abs h) m j
  unfolding shifted load
  shifted_size j a = nat_abs_sum_le (span j (suc m)) _ (λ n k. rw nat_abs-*ℤ (Nat.mul-le-mul_left (nat_abs (c n)) (entry_size u h (n - j) a)))

-- moved by 0 a polynomial is what it was
module _ (c : ℕ → ℤ) (m : ℕ) where
  shifted_still : (j a : ℕ) → j + a ≤ m → shifted c (pos 0) (pos 1) m j a ≡ c (j + a)
  shifted_still j zero l = shifted_zero c (pos 0) (pos 1) m j (omega arith) ∙ ring (shifted c (pos 0) (pos 1) m (suc j) 0 ∷ c j ∷ []) (λ x c. x ⊗ # 0 ⊕ c ⊗ # 1 ≐ c) tt ∙ ap c (sym (Nat.add-zero j))
  shifted_still j (suc a) l =
      shifted_suc c (pos 0) (pos 1) m j a (omega arith) ∙ ring (shifted c (pos 0) (pos 1) m (suc j) (suc a) ∷ shifted c (pos 0) (pos 1) m (suc j) a ∷ []) (λ x y. x ⊗ # 0 ⊕ y ⊗ # 1 ≐ y) tt
      ∙ shifted_still (suc j) a (omega arith) ∙ ap c (omega arith)

  pub still : (a : ℕ) → a ≤ m → sum (0 ⋯ m) (λ n. c n *ℤ entry (pos 0) (pos 1) n a) ≡ c a
  still a l = sym (shifted_all c (pos 0) (pos 1) m a) ∙ shifted_still 0 a (omega arith) ∙ ap c (Nat.zero-add a)

-- ---- the loads
module _ (c : ℕ → ℤ) (b m : ℕ) where
  -- one step down: times b, plus |c(j)|
  pub load_next : (j : ℕ) → j ≤ m → load c b m j ≡ load c b m (suc j) * b + nat_abs (c j)
  unfolding load
  load_next j l =
      let f : ℕ → ℕ = λ n. nat_abs (c n) * b ^ (n - j) in let g : ℕ → ℕ = λ n. nat_abs (c n) * b ^ (n - suc j) in
      let first : f j ≡ nat_abs (c j) = ap (λ n. nat_abs (c j) * b ^ n) (Nat.sub_self j) ∙ ap (λ x. nat_abs (c j) * x) (Nat.pow-zero b) ∙ Nat.mul-one (nat_abs (c j)) in
      let rest : sumℕ (span (suc j) (suc m)) f ≡ sumℕ (span (suc j) (suc m)) g * b = sumℕ_cong (span (suc j) (suc m)) (λ n k.
      let r = span_member (suc j) (suc m) k in let e : n - j ≡ suc (n - suc j) = omega arith in
      ap (λ x. nat_abs (c n) * b ^ x) e ∙ ap (λ x. nat_abs (c n) * x) (Nat.pow-suc b (n - suc j)) ∙ ap nat_abs (ring (pos (nat_abs (c n)) ∷ pos b ∷ pos (b ^ (n - suc j)) ∷ []) (λ c b p. c ⊗ (p ⊗ b) ≐ b ⊗ (c ⊗ p)) tt))
      ∙ sym (*-sumℕ b (span (suc j) (suc m)) g) ∙ Nat.mul_comm b _ in
      let s = sumℕ_span_first j (suc m) f (omega arith) in omega arith

  -- each is at most the sum of |c(n)| e^n over all n, for any larger base e
  pub load_whole : (j : ℕ) {e : ℕ} → b ≤ e → 1 ≤ e → load c b m j ≤ sumℕ (0 ⋯ m) (λ n. nat_abs (c n) * e ^ n)
  unfolding load ◌⋯◌
  load_whole j {e} l o = Nat.le_trans
      (sumℕ_mono (span j (suc m)) (λ n k. Nat.mul-le-mul_left (nat_abs (c n)) (Nat.le_trans (Nat.pow-le-pow_left l (n - j)) (Nat.pow-le-pow_right o (omega arith)))))
      (sumℕ_span_part j (suc m) (λ n. nat_abs (c n) * e ^ n) (Nat.le_refl (suc m)))
