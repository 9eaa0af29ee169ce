-- A finer scale, as a deeper sheet has: with the scale, the centre and the half-side all times c, the form, both bounds and the bend are times c^d.
use mathlib.Core.Path.{◌≡◌, sym, ◌∙◌, ap, ap₂}
use mathlib.Core.List.{List, [], ◌∷◌}
use Prim.Native.Nat.{ℕ, ◌+◌, ◌*◌, ◌-◌, ◌^◌}
use native.Mathlib.Nat as Nat
use native.Mathlib.Omega.{arith}
use lib.IntN.{ℤ, pos, ◌*ℤ◌, pow, *ℤ-zero}
use Rattle.algebra.proofs.Choice.{cond_ap}
use Rattle.algebra.proofs.Integer.{≡_by, *ℤ_neg_ℤ}
use Rattle.algebra.proofs.Power.{*ℤ_pow, pow_+, pos_pow}
use Rattle.algebra.proofs.Absolute.{nat_abs-*ℤ}
use Rattle.algebra.proofs.MinMax.{*ℤ-minℤ}
use Rattle.algebra.proofs.Ring.{ring, ◌⊖◌, ◌⊗◌, ◌≐◌}
use Rattle.algebra.proofs.Sum.{sum_cong, *ℤ-sum, sumℕ_cong, *-sumℕ}
use Rattle.forms.specs.Vectors.{total, chooses, ◌∸◌}
use Rattle.forms.specs.Points.{Point, powers}
use Rattle.forms.specs.Polynomial.{Polynomial, indices, scaled, finer, Index}
use Rattle.forms.specs.LocalForm.{local_term, local}
use Rattle.forms.specs.Bounds.{Mode, low, high, lower, upper, bent, bend}
use Rattle.forms.proofs.Vectors.{vectors_fit}
use Rattle.forms.proofs.Shift.{shifts, shifts_*ℤ}
use Rattle.forms.proofs.Bounds.{high_low}

-- ---- one coefficient
low-* : (mode : Mode) (a : List ℕ) (c : ℕ) (g : ℤ) → low mode a (pos c *ℤ g) ≡ pos c *ℤ low mode a g
unfolding low
low-* mode a c g = simp (cond_ap (λ x. pos c *ℤ x), *ℤ-minℤ, *ℤ-zero, *ℤ_neg_ℤ, nat_abs-*ℤ)

high-* : (mode : Mode) (a : List ℕ) (c : ℕ) (g : ℤ) → high mode a (pos c *ℤ g) ≡ pos c *ℤ high mode a g
high-* mode a c g = simp (high_low, ← *ℤ_neg_ℤ, low-*)

bent-* : (a : List ℕ) (c : ℕ) (g : ℤ) → bent a (pos c *ℤ g) ≡ c * bent a g
unfolding bent
bent-* a c g = simp (cond_ap (λ n. c * n), nat_abs-*ℤ, Nat.mul-zero)

-- ---- all of them
module _ (c : ℕ) (F : Polynomial) (u : Point) (H : ℕ) where
  pub local_finer : (a : List ℕ) → Index F a → local (finer c F) (λ v. pos c *ℤ u v) (c * H) a ≡ pos (c ^ F.degree) *ℤ local F u H a
  unfolding local scaled shifts
  local_finer a j = rw (← (pos_pow c F.degree)) (
      let d = F.degree in let r = pos F.scale in let y : Point = λ v. pos c *ℤ u v in
      sum_cong (indices F) (λ e i. let (l, s) = vectors_fit F.variables d i in let k = F.coefficient e in let p = d - total e in
      ap₂ (λ x z. k *ℤ x *ℤ pos (chooses e a) *ℤ powers y (e ∸ a) *ℤ z) (*ℤ_pow (pos c) r p) (*ℤ_pow (pos c) (pos H) (total a))
      ∙ ≡_by (ap (λ x. k *ℤ pow r p *ℤ pow (pos H) (total a) *ℤ x)
      (rw pow_+ at (shifts_*ℤ e a (p + total a) d (pos c) u (l ∙ sym j.0) (λ t. omega arith))))
      (ring (k ∷ pow (pos c) p ∷ pow r p ∷ pos (chooses e a) ∷ powers y (e ∸ a) ∷ powers u (e ∸ a) ∷ pow (pos c) (total a) ∷ pow (pos H) (total a) ∷ pow (pos c) d ∷ [])
      (λ k cp rp b y u ca ha cd. k ⊗ (cp ⊗ rp) ⊗ b ⊗ y ⊗ (ca ⊗ ha) ⊖ cd ⊗ (k ⊗ rp ⊗ b ⊗ u ⊗ ha) ≐ k ⊗ rp ⊗ ha ⊗ (b ⊗ y ⊗ (cp ⊗ ca)) ⊖ k ⊗ rp ⊗ ha ⊗ (b ⊗ u ⊗ cd)) tt))
      ∙ sym (*ℤ-sum (pow (pos c) d) (indices F) (λ e. local_term F u H a e)))

  pub lower_finer : (mode : Mode) → lower (finer c F) mode (λ v. pos c *ℤ u v) (c * H) ≡ pos (c ^ F.degree) *ℤ lower F mode u H
  unfolding lower
  lower_finer mode = sum_cong (indices F) (λ a m. ap (low mode a) (local_finer a (vectors_fit F.variables F.degree m)) ∙ low-* mode a (c ^ F.degree) (local F u H a))
      ∙ sym (*ℤ-sum (pos (c ^ F.degree)) (indices F) (λ a. low mode a (local F u H a)))

  pub upper_finer : (mode : Mode) → upper (finer c F) mode (λ v. pos c *ℤ u v) (c * H) ≡ pos (c ^ F.degree) *ℤ upper F mode u H
  unfolding upper
  upper_finer mode = sum_cong (indices F) (λ a m. ap (high mode a) (local_finer a (vectors_fit F.variables F.degree m)) ∙ high-* mode a (c ^ F.degree) (local F u H a))
      ∙ sym (*ℤ-sum (pos (c ^ F.degree)) (indices F) (λ a. high mode a (local F u H a)))

  pub bend_finer : bend (finer c F) (λ v. pos c *ℤ u v) (c * H) ≡ c ^ F.degree * bend F u H
  unfolding bend
  bend_finer = sumℕ_cong (indices F) (λ a m. ap (bent a) (local_finer a (vectors_fit F.variables F.degree m)) ∙ bent-* a (c ^ F.degree) (local F u H a))
      ∙ sym (*-sumℕ (c ^ F.degree) (indices F) (λ a. bent a (local F u H a)))
