-- The powers of a moved point: (u + t)^e is the sum of C(e,a) u^(e-a) t^a, and to move by u + t is to move by u and then by t.
use mathlib.Core.Path.{◌≡◌, sym, ◌∙◌, ap, ap₂}
use mathlib.Core.Logic.{inl, inr}
use mathlib.Core.List.{List, [], ◌∷◌}
use Prim.Native.Nat.{ℕ, suc, ◌+◌, ◌-◌, ◌≤◌}
use native.Mathlib.Decide.{dec_lt}
use native.Mathlib.Omega.{arith}
use lib.IntN.{ℤ, pos, ◌+ℤ◌, ◌*ℤ◌, pow, zero-*ℤ}
use lib.ListN.{length}
use Rattle.algebra.specs.Sum.{sum, ◌⋯◌}
use Rattle.algebra.specs.Binomial.{choose}
use Rattle.algebra.proofs.Integer.{*ℤ_idl}
use Rattle.algebra.proofs.Power.{pow_+}
use Rattle.algebra.proofs.Ring.{ring, ◌⊗◌, ◌≐◌}
use Rattle.algebra.proofs.Sum.{sum_cong, *ℤ-sum, sum-*ℤ}
use Rattle.algebra.proofs.Run.{⋯-run}
use Rattle.algebra.proofs.Binomial.{shift, shift_zero, shift_over, shift_+}
use Rattle.forms.specs.Vectors.{total, vectors, chooses, ◌∸◌}
use Rattle.forms.specs.Points.{Point, rest, powers}
use Rattle.forms.proofs.Vectors.{sum_vectors_zero, sum_vectors_suc, chooses_or_∸}
use Rattle.forms.proofs.Points.{powers-*ℤ}

-- C(e,a) x^(e-a), the coefficient of t^a in (x + t)^e
unfoldable pub shifts : Point → List ℕ → List ℕ → ℤ
shifts x e a = pos (chooses e a) *ℤ powers x (e ∸ a)

pub shifts_none : (x : Point) (e : List ℕ) → shifts x e [] ≡ powers x e
unfolding shifts chooses ◌∸◌
shifts_none x [] = *ℤ_idl (powers x [])
shifts_none x (i ∷ e) = *ℤ_idl (powers x (i ∷ e))

-- a vector's first exponent and the others
abbrev head : List ℕ → ℕ
head [] = 0
head (k ∷ a) = k

abbrev tail : List ℕ → List ℕ
tail [] = []
tail (k ∷ a) = a

shifts_cons : (x : Point) (i : ℕ) (e a : List ℕ) → shifts x (i ∷ e) a ≡ shift (x 0) i (head a) *ℤ shifts (rest x) e (tail a)
unfolding shifts shift chooses ◌∸◌ powers
shifts_cons x i e [] = shifts_none x (i ∷ e) ∙ sym (ap₂ ◌*ℤ◌ (shift_zero (x 0) i) (shifts_none (rest x) e))
shifts_cons x i e (k ∷ a) = ring (pos (choose i k) ∷ pos (chooses e a) ∷ pow (x 0) (i - k) ∷ powers (rest x) (e ∸ a) ∷ []) (λ c d x p. c ⊗ d ⊗ (x ⊗ p) ≐ c ⊗ x ⊗ (d ⊗ p)) tt

-- ---- to move by u + t: first the sum over the vectors that begin with k
shifts_row : (i k : ℕ) (e : List ℕ) (bs : List (List ℕ)) (u t : Point) (a : List ℕ) (p : ℤ) →
    (k ≤ i → p ≡ sum bs (λ b. shifts (rest u) e b *ℤ shifts (rest t) b (tail a))) →
    shift (u 0) i k *ℤ shift (t 0) k (head a) *ℤ p ≡ sum bs (λ b. shifts u (i ∷ e) (k ∷ b) *ℤ shifts t (k ∷ b) a)
shifts_row i k e bs u t a p h =
    let x = shift (u 0) i k in let y = shift (t 0) k (head a) in let s : List ℕ → ℤ = λ b. shifts (rest u) e b *ℤ shifts (rest t) b (tail a) in
    let g : x *ℤ y *ℤ p ≡ x *ℤ y *ℤ sum bs s = elim (dec_lt i k) [ yes l ↦ simp (shift_over (u 0) i k, zero-*ℤ) | no l ↦ rw (← (h (omega arith))) ] in
    g ∙ *ℤ-sum (x *ℤ y) bs s ∙ sum_cong bs (λ b m. rw (shifts_cons u i e (k ∷ b), shifts_cons t k b a)
    (ring (x ∷ y ∷ shifts (rest u) e b ∷ shifts (rest t) b (tail a) ∷ []) (λ x y p q. x ⊗ y ⊗ (p ⊗ q) ≐ x ⊗ p ⊗ (y ⊗ q)) tt))

pub shifts_+ : (e : List ℕ) (d : ℕ) (u t : Point) (a : List ℕ) → total e ≤ d → shifts (λ v. u v +ℤ t v) e a ≡ sum (vectors (length e) d) (λ b. shifts u e b *ℤ shifts t b a)
unfolding total shifts chooses powers ◌∸◌
shifts_+ [] d u t a h = sym (sum_vectors_zero d (λ b. shifts u [] b *ℤ shifts t b a))
shifts_+ (i ∷ e) d u t a h =
    let s : ℕ → ℤ = λ k. shift (u 0) i k *ℤ shift (t 0) k (head a) in let p = shifts (λ v. rest u v +ℤ rest t v) e (tail a) in
    shifts_cons (λ v. u v +ℤ t v) i e a
    ∙ ap (λ x. x *ℤ p) (shift_+ (u 0) (t 0) i (suc d) (head a) (omega arith) ∙ ap (λ l. sum l s) (sym (⋯-run d))) ∙ sum-*ℤ (0 ⋯ d) s p
    ∙ sum_cong (0 ⋯ d) (λ k j. shifts_row i k e (vectors (length e) (d - k)) u t a p (λ l. shifts_+ e (d - k) (rest u) (rest t) (tail a) (omega arith)))
    ∙ sym (sum_vectors_suc (length e) d (λ b. shifts u (i ∷ e) b *ℤ shifts t b a))

-- the case a = 0: (u + t)^e is the sum of C(e,b) u^(e-b) t^b
pub powers-+ : (e : List ℕ) (n d : ℕ) (u t : Point) → length e ≡ n → total e ≤ d → powers (λ v. u v +ℤ t v) e ≡ sum (vectors n d) (λ b. shifts u e b *ℤ powers t b)
powers-+ e n d u t l s = simp (shifts_none, l) at (shifts_+ e d u t [] s)

-- ---- a factor q at each variable becomes a power of q: where a is at most e, the exponents m and n differ by |e-a|
pub shifts_*ℤ : (e a : List ℕ) (m n : ℕ) (q : ℤ) (u : Point) → length e ≡ length a → (total (e ∸ a) + total a ≡ total e → n ≡ total (e ∸ a) + m) →
    shifts (λ v. q *ℤ u v) e a *ℤ pow q m ≡ shifts u e a *ℤ pow q n
unfolding shifts
shifts_*ℤ e a m n q u l h = elim (chooses_or_∸ e a l) [
  | inl z ↦ simp (z, zero-*ℤ)
  | inr s ↦ rw (powers-*ℤ (e ∸ a) q u, h s, pow_+)
      (ring (pos (chooses e a) ∷ powers u (e ∸ a) ∷ pow q (total (e ∸ a)) ∷ pow q m ∷ []) (λ c x q r. c ⊗ (q ⊗ x) ⊗ r ≐ c ⊗ x ⊗ (q ⊗ r)) tt)
]
