-- The page's formulas are those of the polynomial with its coefficients, in the plane.
use mathlib.Core.Path.{◌≡◌, sym, ◌∙◌, ap}
use mathlib.Core.List.{[], ◌∷◌}
use Prim.Native.Nat.{ℕ, ◌+◌, ◌-◌, ◌^◌}
use lib.IntN.{ℤ}
use Rattle.algebra.specs.Sum.{◌⋯◌}
use Rattle.algebra.proofs.Integer.{*ℤ_idr}
use Rattle.algebra.proofs.Power.{one_pow}
use Rattle.algebra.proofs.Sum.{sum_cong, sumℕ_cong}
use Rattle.forms.specs.Points.{Point}
use Rattle.forms.specs.Polynomial.{Polynomial, value}
use Rattle.forms.specs.LocalForm.{local}
use Rattle.forms.specs.Bounds as Bounds
use Rattle.forms.specs.Plane.{pair, plane, moved}
use Rattle.forms.proofs.Plane.{value_plane, local_plane, lower_plane, upper_plane, bend_plane, low_plane, high_plane, bent_plane}
use Rattle.page.specs.Sheet.{Sheet, A}
use Rattle.page.specs.Scaled.{F, half_side, U0, V0, value_at}
use Rattle.page.specs.LocalForm.{G}
use Rattle.page.specs.Bounds.{lower, upper, bend}

-- the polynomial of a sheet, and the centre of a cell
abbrev pub polynomial : Sheet → Polynomial
polynomial S = plane S.d (2 ^ (S.k + 1)) (A S)

abbrev pub centre : Sheet → ℕ → ℕ → ℕ → Point
centre S j p q = pair (U0 S j p) (V0 S j q)

pub value_is : (S : Sheet) (M N : ℤ) (Q : ℕ) → value_at S M N Q ≡ value (polynomial S) (pair M N) Q
unfolding value_at
value_is S M N Q = sym (value_plane S.d S.k (A S) M N Q)

pub F_is : (S : Sheet) (u v : ℤ) → F S u v ≡ value (polynomial S) (pair u v) 1
unfolding F
F_is S u v = sym (value_plane S.d S.k (A S) u v 1 ∙ sum_cong (0 ⋯ S.d) (λ i m. sum_cong (0 ⋯ (S.d - i)) (λ j l. rw (one_pow (S.d - i - j), *ℤ_idr))))

module _ (S : Sheet) (j p q : ℕ) where
  pub G_is : (a b : ℕ) → G S j p q a b ≡ local (polynomial S) (centre S j p q) (half_side S j) (a ∷ b ∷ [])
  unfolding G moved
  G_is a b = sym (local_plane S.d S.k (A S) (U0 S j p) (V0 S j q) (half_side S j) a b)

  pub lower_is : (mode : Bounds.Mode) → lower S mode j p q ≡ Bounds.lower (polynomial S) mode (centre S j p q) (half_side S j)
  unfolding lower
  lower_is mode = sum_cong (0 ⋯ S.d) (λ a m. sum_cong (0 ⋯ (S.d - a)) (λ b n. sym (low_plane mode a b (G S j p q a b)) ∙ ap (Bounds.low mode (a ∷ b ∷ [])) (G_is a b)))
      ∙ sym (lower_plane S.d (2 ^ (S.k + 1)) (A S) mode (centre S j p q) (half_side S j))

  pub upper_is : (mode : Bounds.Mode) → upper S mode j p q ≡ Bounds.upper (polynomial S) mode (centre S j p q) (half_side S j)
  unfolding upper
  upper_is mode = sum_cong (0 ⋯ S.d) (λ a m. sum_cong (0 ⋯ (S.d - a)) (λ b n. sym (high_plane mode a b (G S j p q a b)) ∙ ap (Bounds.high mode (a ∷ b ∷ [])) (G_is a b)))
      ∙ sym (upper_plane S.d (2 ^ (S.k + 1)) (A S) mode (centre S j p q) (half_side S j))

  pub bend_is : bend S j p q ≡ Bounds.bend (polynomial S) (centre S j p q) (half_side S j)
  unfolding bend
  bend_is = sumℕ_cong (0 ⋯ S.d) (λ a m. sumℕ_cong (0 ⋯ (S.d - a)) (λ b n. sym (bent_plane a b (G S j p q a b)) ∙ ap (Bounds.bent (a ∷ b ∷ [])) (G_is a b)))
      ∙ sym (bend_plane S.d (2 ^ (S.k + 1)) (A S) (centre S j p q) (half_side S j))
