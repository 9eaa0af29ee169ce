-- Taylor's formula: the value at a point near Q u, from the coefficients at u, and at Q u + H t from the local form.
use mathlib.Core.Path.{◌≡◌, sym, ◌∙◌, ap}
use mathlib.Core.List.{List, [], ◌∷◌, Memᴰ}
use Prim.Native.Nat.{ℕ, ◌+◌, ◌*◌, ◌-◌}
use native.Mathlib.Omega.{arith}
use lib.IntN.{ℤ, pos, ◌+ℤ◌, ◌*ℤ◌, pow}
use Rattle.algebra.specs.Sum.{sum}
use Rattle.algebra.proofs.Integer.{≡_by, *ℤ_assoc, *ℤ_idl, *ℤ_idr}
use Rattle.algebra.proofs.Power.{one_pow, pow_+, *ℤ_pow}
use Rattle.algebra.proofs.Ring.{ring, ◌⊖◌, ◌⊗◌, ◌≐◌}
use Rattle.algebra.proofs.Sum.{sum_cong, sum_swap, *ℤ-sum, sum-*ℤ}
use Rattle.forms.specs.Vectors.{total}
use Rattle.forms.specs.Points.{Point, powers}
use Rattle.forms.specs.Polynomial.{Polynomial, indices, scaled, value}
use Rattle.forms.specs.Box.{corner}
use Rattle.forms.specs.LocalForm.{local_term, local}
use Rattle.forms.proofs.Vectors.{vectors_fit}
use Rattle.forms.proofs.Points.{powers-*ℤ}
use Rattle.forms.proofs.Shift.{shifts, powers-+, shifts_*ℤ}

-- g(a), the sum of A(e) S^(d-|e|) C(e,a) u^(e-a)
unfoldable pub taylor : Polynomial → Point → List ℕ → ℤ
taylor F u a = sum (indices F) (λ e. scaled F e *ℤ shifts u e a)

-- G(a) = g(a) H^|a|
pub local_taylor : (F : Polynomial) (u : Point) (H : ℕ) (a : List ℕ) → local F u H a ≡ taylor F u a *ℤ pow (pos H) (total a)
unfolding local taylor shifts
local_taylor F u H a = simp (local, local_term, sum-*ℤ, *ℤ_assoc)

module _ (F : Polynomial) (u t : Point) (Q : ℕ) where
  -- the term of e
  expand : {e : List ℕ} → Memᴰ e (indices F) → scaled F e *ℤ powers (λ v. pos Q *ℤ u v +ℤ t v) e *ℤ pow (pos Q) (F.degree - total e)
      ≡ sum (indices F) (λ a. scaled F e *ℤ shifts u e a *ℤ powers t a *ℤ pow (pos Q) (F.degree - total a))
  expand {e} m =
      let n = F.variables in let d = F.degree in let q = pos Q in let k = scaled F e in let p = pow q (d - total e) in
      let (l, s) = vectors_fit n d m in
      rw (powers-+ e n d (λ v. q *ℤ u v) t l s) (simp (*ℤ-sum, sum-*ℤ) (sum_cong (indices F) (λ a i.
      let (l', s') = vectors_fit n d i in
      ≡_by (ap (λ z. k *ℤ powers t a *ℤ z) (shifts_*ℤ e a (d - total e) (d - total a) q u (l ∙ sym l') (λ t. omega arith)))
      (ring (k ∷ p ∷ pow q (d - total a) ∷ powers t a ∷ shifts (λ v. q *ℤ u v) e a ∷ shifts u e a ∷ [])
      (λ k q r t y u. k ⊗ (y ⊗ t) ⊗ q ⊖ k ⊗ u ⊗ t ⊗ r ≐ k ⊗ t ⊗ (y ⊗ q) ⊖ k ⊗ t ⊗ (u ⊗ r)) tt))))

  -- F(Q u + t, Q) is the sum of g(a) t^a Q^(d-|a|)
  pub taylor_formula : value F (λ v. pos Q *ℤ u v +ℤ t v) Q ≡ sum (indices F) (λ a. taylor F u a *ℤ powers t a *ℤ pow (pos Q) (F.degree - total a))
  unfolding value taylor
  taylor_formula = sum_cong (indices F) (λ e m. expand m)
      ∙ sum_swap (indices F) (indices F) (λ e a. scaled F e *ℤ shifts u e a *ℤ powers t a *ℤ pow (pos Q) (F.degree - total a)) ∙ simp (← sum-*ℤ)

-- at any offset t, from the local form: H^d F(Q u + t, Q) is the sum of G(a) t^a (Q H)^(d-|a|)
pub taylor_local : (F : Polynomial) (u : Point) (H : ℕ) (t : Point) (Q : ℕ) →
    pow (pos H) F.degree *ℤ value F (λ v. pos Q *ℤ u v +ℤ t v) Q ≡ sum (indices F) (λ a. local F u H a *ℤ powers t a *ℤ pow (pos (Q * H)) (F.degree - total a))
taylor_local F u H t Q = rw (taylor_formula F u t Q, *ℤ-sum) (sum_cong (indices F) (λ a m.
    let d = F.degree in let s = (vectors_fit F.variables d m).1 in let e : total a + (d - total a) ≡ d = omega arith in
    let p : pow (pos H) d ≡ pow (pos H) (total a) *ℤ pow (pos H) (d - total a) = ap (pow (pos H)) (sym e) ∙ pow_+ (pos H) (total a) (d - total a) in
    rw (local_taylor F u H a, *ℤ_pow (pos Q) (pos H), p)
    (ring (taylor F u a ∷ powers t a ∷ pow (pos Q) (d - total a) ∷ pow (pos H) (total a) ∷ pow (pos H) (d - total a) ∷ []) (λ g t q h k. h ⊗ k ⊗ (g ⊗ t ⊗ q) ≐ g ⊗ h ⊗ t ⊗ (q ⊗ k)) tt)))

-- F(Q u + H t, Q) is the sum of G(a) t^a Q^(d-|a|): the page's F(U0 + H e, V0 + H g), with e and g over the denominator Q
pub local_formula : (F : Polynomial) (u : Point) (H : ℕ) (t : Point) (Q : ℕ) →
    value F (λ v. pos Q *ℤ u v +ℤ pos H *ℤ t v) Q ≡ sum (indices F) (λ a. local F u H a *ℤ powers t a *ℤ pow (pos Q) (F.degree - total a))
local_formula F u H t Q = taylor_formula F u (λ v. pos H *ℤ t v) Q ∙ sum_cong (indices F) (λ a m. rw (local_taylor F u H a, powers-*ℤ a (pos H) t)
    (ring (taylor F u a ∷ pow (pos H) (total a) ∷ powers t a ∷ pow (pos Q) (F.degree - total a) ∷ []) (λ g h t q. g ⊗ (h ⊗ t) ⊗ q ≐ g ⊗ h ⊗ t ⊗ q) tt))

-- at a whole point: F(u + H t) is the sum of G(a) t^a
pub local_whole : (F : Polynomial) (u : Point) (H : ℕ) (t : Point) → value F (corner u H t) 1 ≡ sum (indices F) (λ a. local F u H a *ℤ powers t a)
local_whole F u H t = simp (*ℤ_idl, one_pow, *ℤ_idr) at (local_formula F u H t 1)
