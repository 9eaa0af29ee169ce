-- The ring solver: it proves an identity of ℤ whose two sides have the same normal form, so that no proof moves factors by hand.
--   square : (a b : ℤ) → (a +ℤ b) *ℤ (a -ℤ b) ≡ a *ℤ a -ℤ b *ℤ b
--   square a b = ring (a ∷ b ∷ []) (λ a b. (a ⊕ b) ⊗ (a ⊖ b) ≐ a ⊗ a ⊖ b ⊗ b) tt
-- The list holds the atoms, any terms of ℤ. The λ says the identity over names for them: `# 3` is a literal, `e ⋆ 2` a power, `⊝ e` a negation.
-- `tt` fits where the difference of the two sides has no coefficient but zero.
use mathlib.Core.Path.{◌≡◌, refl, sym, ◌∙◌, ap}
use mathlib.Core.List.{[], ◌∷◌}
use Prim.Native.Nat.{ℕ, suc}
use lib.Dec.{T}
use lib.IntN.{ℤ, pos, negsuc, ◌+ℤ◌, ◌*ℤ◌, neg_ℤ, pow, +ℤ_idl, -ℤ-+ℤ_cancel}
use Rattle.algebra.proofs.Integer.{*ℤ_idl, neg_ℤ_*ℤ}
use Rattle.algebra.proofs.Polynomial.{Env, look, Poly, κ, value, plus, scale, times, power, variable, is_zero, plus_is, scale_is, times_is, power_is, variable_is, is_zero_is}

-- ---- expressions
pub data Expr : Type 0 where
  var #◌ : ℕ → Expr
  ◌⊕◌ ◌⊗◌ : Expr → Expr → Expr
  ⊝◌ : Expr → Expr
  ◌⋆◌ : Expr → ℕ → Expr

infixl 6 ◌⊕◌ ◌⊖◌
infixl 7 ◌⊗◌
infixl 8 ◌⋆◌
infix 9 ⊝◌ #◌
infix 4 ◌≐◌
abbrev pub ◌⊖◌ : Expr → Expr → Expr
a ⊖ b = a ⊕ ⊝ b

-- an expression's value
abbrev pub ⟦◌⟧ : Expr → Env → ℤ
⟦ var n ⟧ ρ = look n ρ
⟦ # n ⟧ ρ = pos n
⟦ a ⊕ b ⟧ ρ = ⟦ a ⟧ ρ +ℤ ⟦ b ⟧ ρ
⟦ a ⊗ b ⟧ ρ = ⟦ a ⟧ ρ *ℤ ⟦ b ⟧ ρ
⟦ ⊝ a ⟧ ρ = neg_ℤ (⟦ a ⟧ ρ)
⟦ a ⋆ n ⟧ ρ = pow (⟦ a ⟧ ρ) n

-- its normal form, and that it has the same value
abbrev pub norm : Expr → Poly
norm (var n) = variable n
norm (# n) = κ (pos n)
norm (a ⊕ b) = plus (norm a) (norm b)
norm (a ⊗ b) = times (norm a) (norm b)
norm (⊝ a) = scale (negsuc 0) (norm a)
norm (a ⋆ n) = power (norm a) n

pub norm_is : (e : Expr) (ρ : Env) → value (norm e) ρ ≡ ⟦ e ⟧ ρ
unfolding value
norm_is (var n) ρ = variable_is n ρ
norm_is (# n) ρ = refl
norm_is (a ⊕ b) ρ = rw (plus_is (norm a) (norm b) ρ, norm_is a ρ, norm_is b ρ)
norm_is (a ⊗ b) ρ = rw (times_is (norm a) (norm b) ρ, norm_is a ρ, norm_is b ρ)
norm_is (⊝ a) ρ = rw (scale_is (negsuc 0) (norm a) ρ, norm_is a ρ, neg_ℤ_*ℤ (pos 1) (⟦ a ⟧ ρ), *ℤ_idl (⟦ a ⟧ ρ))
norm_is (a ⋆ n) ρ = rw (power_is (norm a) n ρ, norm_is a ρ)

-- ---- two expressions are equal where their difference has no coefficient but zero
solve : (ρ : Env) (a b : Expr) → T (is_zero (norm (a ⊖ b))) → ⟦ a ⟧ ρ ≡ ⟦ b ⟧ ρ
solve ρ a b t = sym (-ℤ-+ℤ_cancel (⟦ a ⟧ ρ) (⟦ b ⟧ ρ)) ∙ ap (λ x. x +ℤ ⟦ b ⟧ ρ) (sym (norm_is (a ⊖ b) ρ) ∙ is_zero_is (norm (a ⊖ b)) ρ t) ∙ +ℤ_idl (⟦ b ⟧ ρ)

-- the two sides of an identity, over an expression for each atom
pub record Identity : Type 0 where
  pub left : Expr
  pub right : Expr

abbrev pub ◌≐◌ : Expr → Expr → Identity
a ≐ b = record { left = a; right = b }

abbrev pub Over : Env → Type 0
Over [] = Identity
Over (x ∷ ρ) = Expr → Over ρ

-- with the variables n, n + 1, .. for the atoms
abbrev pub at : ℕ → (ρ : Env) → Over ρ → Identity
at n [] f = f
at n (x ∷ ρ) f = at (suc n) ρ (f (var n))

pub ring : (ρ : Env) (f : Over ρ) → T (is_zero (norm ((at 0 ρ f).left ⊖ (at 0 ρ f).right))) → ⟦ (at 0 ρ f).left ⟧ ρ ≡ ⟦ (at 0 ρ f).right ⟧ ρ
ring ρ f = solve ρ (at 0 ρ f).left (at 0 ρ f).right
