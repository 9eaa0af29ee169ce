-- Polynomials over ℤ in any number of variables, as data that computes: the normal forms of the ring solver.
use mathlib.Core.Path.{◌≡◌, refl, sym, ◌∙◌}
use mathlib.Core.List.{List, [], ◌∷◌}
use mathlib.Core.Bool.{Bool, true, false, ◌&&◌}
use Prim.Native.Nat.{ℕ, zero, suc}
use lib.Dec.{T}
use lib.IntN.{ℤ, pos, negsuc, ◌+ℤ◌, ◌*ℤ◌, pow, +ℤ_comm, +ℤ_assoc, +ℤ_idl, +ℤ_idr, zero-*ℤ, *ℤ-zero, *ℤ_comm}
use Rattle.algebra.proofs.Choice.{and_l, and_r}
use Rattle.algebra.proofs.Integer.{+ℤ_medial, +ℤ-*ℤ, *ℤ-+ℤ, *ℤ_assoc, *ℤ_left_comm, *ℤ_idr}
use Rattle.algebra.proofs.Power.{pow_zero, pow_suc}

-- the variables' values; past the end they are zero
abbrev pub Env : Type 0
Env = List ℤ

abbrev pub hd : Env → ℤ
hd [] = pos 0
hd (x ∷ ρ) = x

abbrev pub tl : Env → Env
tl [] = []
tl (x ∷ ρ) = ρ

abbrev pub look : ℕ → Env → ℤ
look zero ρ = hd ρ
look (suc n) ρ = look n (tl ρ)

-- a polynomial: a constant, or p + x * q where x is the first variable and p has only the later ones
pub data Poly : Type 0 where
  κ : ℤ → Poly
  ◌◁◌ : Poly → Poly → Poly

infixr 5 ◌◁◌
unfoldable pub value : Poly → Env → ℤ
value (κ c) ρ = c
value (p ◁ q) ρ = value p (tl ρ) +ℤ hd ρ *ℤ value q ρ

abbrev pub plusκ : ℤ → Poly → Poly
plusκ a (κ b) = κ (a +ℤ b)
plusκ a (p ◁ q) = plusκ a p ◁ q

abbrev pub plus : Poly → Poly → Poly
plus (κ a) r = plusκ a r
plus (p ◁ q) (κ b) = plusκ b (p ◁ q)
plus (p ◁ q) (r ◁ s) = plus p r ◁ plus q s

-- a multiple, by a constant that is not zero; by any constant
abbrev pub scale' : ℤ → Poly → Poly
scale' a (κ b) = κ (a *ℤ b)
scale' a (p ◁ q) = scale' a p ◁ scale' a q

abbrev pub scale : ℤ → Poly → Poly
scale (pos zero) p = κ (pos zero)
scale (pos (suc n)) p = scale' (pos (suc n)) p
scale (negsuc n) p = scale' (negsuc n) p

-- the product by a polynomial of the later variables, given as the function that multiplies by it
abbrev pub under : (Poly → Poly) → Poly → Poly
under f (κ b) = f (κ b) ◁ κ (pos zero)
under f (p ◁ q) = f p ◁ under f q

abbrev pub times : Poly → Poly → Poly
times (κ a) r = scale a r
times (p ◁ q) (κ b) = scale b (p ◁ q)
times (p ◁ q) (r ◁ s) = times p r ◁ plus (under (times p) s) (times q (r ◁ s))

abbrev pub power : Poly → ℕ → Poly
power p zero = κ (pos 1)
power p (suc n) = times (power p n) p

abbrev pub variable : ℕ → Poly
variable zero = κ (pos 0) ◁ κ (pos 1)
variable (suc n) = variable n ◁ κ (pos 0)

-- ---- their values
plusκ_is : (a : ℤ) (p : Poly) (ρ : Env) → value (plusκ a p) ρ ≡ a +ℤ value p ρ
unfolding value
plusκ_is a (κ b) ρ = refl
plusκ_is a (p ◁ q) ρ = rw (plusκ_is a p (tl ρ)) (+ℤ_assoc a (value p (tl ρ)) (hd ρ *ℤ value q ρ))

pub plus_is : (p q : Poly) (ρ : Env) → value (plus p q) ρ ≡ value p ρ +ℤ value q ρ
unfolding value
plus_is (κ a) r ρ = plusκ_is a r ρ
plus_is (p ◁ q) (κ b) ρ = plusκ_is b (p ◁ q) ρ ∙ +ℤ_comm b (value (p ◁ q) ρ)
plus_is (p ◁ q) (r ◁ s) ρ = rw (plus_is p r (tl ρ), plus_is q s ρ, *ℤ-+ℤ) (+ℤ_medial (value p (tl ρ)) (value r (tl ρ)) (hd ρ *ℤ value q ρ) (hd ρ *ℤ value s ρ))

scale'_is : (a : ℤ) (p : Poly) (ρ : Env) → value (scale' a p) ρ ≡ a *ℤ value p ρ
unfolding value
scale'_is a (κ b) ρ = refl
scale'_is a (p ◁ q) ρ = rw (scale'_is a p (tl ρ), scale'_is a q ρ, *ℤ-+ℤ, *ℤ_left_comm (hd ρ))

pub scale_is : (a : ℤ) (p : Poly) (ρ : Env) → value (scale a p) ρ ≡ a *ℤ value p ρ
unfolding value
scale_is (pos zero) p ρ = sym (zero-*ℤ (value p ρ))
scale_is (pos (suc n)) p ρ = scale'_is (pos (suc n)) p ρ
scale_is (negsuc n) p ρ = scale'_is (negsuc n) p ρ

under_is : (f : Poly → Poly) (a : ℤ) (ρ : Env) → ((p : Poly) → value (f p) (tl ρ) ≡ a *ℤ value p (tl ρ)) → (p : Poly) → value (under f p) ρ ≡ a *ℤ value p ρ
unfolding value
under_is f a ρ h (κ b) = rw (h (κ b), *ℤ-zero) (+ℤ_idr (a *ℤ b))
under_is f a ρ h (p ◁ q) = rw (h p, under_is f a ρ h q, *ℤ-+ℤ, *ℤ_left_comm (hd ρ))

-- (p + x q) (r + x s) = p r + x (p s + q (r + x s))
expand : (p x q r s : ℤ) → p *ℤ r +ℤ x *ℤ (p *ℤ s +ℤ q *ℤ (r +ℤ x *ℤ s)) ≡ (p +ℤ x *ℤ q) *ℤ (r +ℤ x *ℤ s)
expand p x q r s = simp (+ℤ-*ℤ, *ℤ-+ℤ, *ℤ_assoc, +ℤ_assoc, *ℤ_left_comm p x s)

pub times_is : (p q : Poly) (ρ : Env) → value (times p q) ρ ≡ value p ρ *ℤ value q ρ
unfolding value
times_is (κ a) r ρ = scale_is a r ρ
times_is (p ◁ q) (κ b) ρ = scale_is b (p ◁ q) ρ ∙ *ℤ_comm b (value (p ◁ q) ρ)
times_is (p ◁ q) (r ◁ s) ρ =
    rw (times_is p r (tl ρ), plus_is (under (times p) s) (times q (r ◁ s)) ρ, under_is (times p) (value p (tl ρ)) ρ (λ t. times_is p t (tl ρ)) s, times_is q (r ◁ s) ρ)
    (expand (value p (tl ρ)) (hd ρ) (value q ρ) (value r (tl ρ)) (value s ρ))

pub power_is : (p : Poly) (n : ℕ) (ρ : Env) → value (power p n) ρ ≡ pow (value p ρ) n
unfolding value
power_is p zero ρ = sym (pow_zero (value p ρ))
power_is p (suc n) ρ = rw (times_is (power p n) p ρ, power_is p n ρ) (sym (pow_suc (value p ρ) n))

pub variable_is : (n : ℕ) (ρ : Env) → value (variable n) ρ ≡ look n ρ
unfolding value
variable_is zero ρ = simp (+ℤ_idl, *ℤ_idr)
variable_is (suc n) ρ = rw (*ℤ-zero, variable_is n (tl ρ)) (+ℤ_idr (look n (tl ρ)))

-- ---- a polynomial with no coefficient but zero
abbrev pub is_zero : Poly → Bool
is_zero (κ (pos zero)) = true
is_zero (κ (pos (suc n))) = false
is_zero (κ (negsuc n)) = false
is_zero (p ◁ q) = is_zero p && is_zero q

pub is_zero_is : (p : Poly) (ρ : Env) → T (is_zero p) → value p ρ ≡ pos 0
unfolding value
is_zero_is (κ (pos zero)) ρ t = refl
is_zero_is (κ (pos (suc n))) ρ t = absurd t
is_zero_is (κ (negsuc n)) ρ t = absurd t
is_zero_is (p ◁ q) ρ t = rw (is_zero_is p (tl ρ) (and_l (is_zero p) (is_zero q) t), is_zero_is q ρ (and_r (is_zero p) (is_zero q) t), *ℤ-zero)
