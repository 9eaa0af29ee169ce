-- Signs that turn every linear coefficient against its own sign: the corner where the linear terms are all at their least.
use mathlib.Core.Path.{◌≡◌, refl, ◌∙◌, ap}
use mathlib.Core.List.{List, [], ◌∷◌}
use Prim.Native.Nat.{ℕ, zero, suc, ◌*◌, ◌≤◌}
use native.Mathlib.Omega.{arith}
use lib.IntN.{ℤ, pos, negsuc, ◌+ℤ◌, ◌*ℤ◌, neg_ℤ, nat_abs, *ℤ-negsuc}
use lib.ListN.{length, replicate}
use Rattle.algebra.proofs.Integer.{*ℤ_idl, *ℤ_idr}
use Rattle.algebra.proofs.Power.{pow_zero, pow_one}
use Rattle.algebra.proofs.Order.{≤ℤ_by, nonneg, pos_mono}
use Rattle.algebra.proofs.Absolute.{nat_abs_bound}
use Rattle.algebra.proofs.Ring.{ring, ◌⊕◌, ◌⊖◌, ◌⊗◌, ⊝◌, #◌, ◌≐◌}
use Rattle.forms.specs.Vectors.{total}
use Rattle.forms.specs.Points.{powers}
use Rattle.forms.specs.Straight.{against, unit, turning}
use Rattle.forms.proofs.Vectors.{zeros}
use Rattle.forms.proofs.Points.{powers_zero}

-- ---- the sign against g: g times it is -|g|
pub nat_abs_against : (g : ℤ) → nat_abs (against g) ≡ 1
unfolding against
nat_abs_against (pos n) = refl
nat_abs_against (negsuc n) = refl

*ℤ-against : (g : ℤ) → g *ℤ against g ≡ neg_ℤ (pos (nat_abs g))
unfolding against
*ℤ-against (pos n) = *ℤ-negsuc (pos n) 0 ∙ ap neg_ℤ (*ℤ_idr (pos n))
*ℤ-against (negsuc n) = *ℤ_idr (negsuc n)

-- a number of at most 2 c comes to at most c by one step of c against its sign
pub against_near : (g : ℤ) (c : ℕ) → nat_abs g ≤ 2 * c → nat_abs (g +ℤ pos c *ℤ against g) ≤ c
unfolding against
against_near (pos n) c h = nat_abs_bound {a = pos n +ℤ pos c *ℤ negsuc 0}
    (≤ℤ_by (nonneg n) (ring (pos n ∷ pos c ∷ []) (λ n c. n ⊕ c ⊗ ⊝ # 1 ⊖ ⊝ c ≐ n ⊖ # 0) tt))
    (≤ℤ_by (pos_mono h) (ring (pos n ∷ pos c ∷ []) (λ n c. c ⊖ (n ⊕ c ⊗ ⊝ # 1) ≐ # 2 ⊗ c ⊖ n) tt))
against_near (negsuc n) c h = nat_abs_bound {a = negsuc n +ℤ pos c *ℤ pos 1}
    (≤ℤ_by (pos_mono h) (ring (pos (suc n) ∷ pos c ∷ []) (λ m c. ⊝ m ⊕ c ⊗ # 1 ⊖ ⊝ c ≐ # 2 ⊗ c ⊖ m) tt))
    (≤ℤ_by (nonneg (suc n)) (ring (pos (suc n) ∷ pos c ∷ []) (λ m c. c ⊖ (⊝ m ⊕ c ⊗ # 1) ≐ m ⊖ # 0) tt))

-- ---- g(a) σ^a = -|g(a)| wherever |a| = 1
pub turning_linear : (n : ℕ) (g : List ℕ → ℤ) (a : List ℕ) → length a ≡ n → total a ≡ 1 → g a *ℤ powers (turning n g) a ≡ neg_ℤ (pos (nat_abs (g a)))
unfolding total powers unit
turning_linear zero g [] l t = absurd (omega arith)
turning_linear zero g (i ∷ a) l t = absurd (omega arith)
turning_linear (suc n) g [] l t = absurd (omega arith)
turning_linear (suc n) g (zero ∷ a) l t = rw (pow_zero, *ℤ_idl) (turning_linear n (λ a. g (0 ∷ a)) a (omega arith) (omega arith))
turning_linear (suc n) g (suc zero ∷ a) l t =
    let z : total a ≡ 0 = omega arith in
    rw (powers_zero a (λ v. turning (suc n) g (suc v)) z, pow_one, *ℤ_idr, zeros n a (omega arith) z) (*ℤ-against (g (1 ∷ replicate n 0)))
turning_linear (suc n) g (suc (suc i) ∷ a) l t = absurd (omega arith)
