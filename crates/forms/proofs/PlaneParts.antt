-- The form of a part in the plane: the halved form of the whole, moved by 1 or -1 in each variable.
use mathlib.Core.Path.{◌≡◌, refl, ◌∙◌, fun_ext}
use mathlib.Core.List.{[], ◌∷◌}
use Prim.Native.Nat.{ℕ, zero, suc, ◌+◌, ◌-◌, ◌≤◌, ◌<◌}
use native.Mathlib.Nat as Nat
use lib.IntN.{ℤ, pos, ◌+ℤ◌, ◌*ℤ◌, pow, zero-*ℤ, *ℤ-zero}
use Rattle.algebra.proofs.Integer.{*ℤ_idr}
use Rattle.algebra.specs.Sum.{sum, ◌⋯◌}
use Rattle.algebra.specs.Binomial.{choose}
use Rattle.algebra.proofs.Power.{one_pow}
use Rattle.algebra.proofs.Ring.{ring, ◌⊗◌, #◌, ◌≐◌}
use Rattle.algebra.proofs.Sum.{sum_cong, sum_zero}
use Rattle.algebra.proofs.Run.{sum_⋯_from}
use Rattle.algebra.proofs.Binomial.{choose_over}
use Rattle.forms.specs.Vectors.{chooses, ◌∸◌}
use Rattle.forms.specs.Points.{Point, powers}
use Rattle.forms.specs.Box.{corner}
use Rattle.forms.specs.LocalForm.{local}
use Rattle.forms.specs.Plane.{pair, plane, moved_term, moved}
use Rattle.forms.proofs.Plane.{sum_plane, pair_index}
use Rattle.forms.proofs.Parts.{local_part}

-- the corner of a pair, by its two coordinates
pub corner_pair : (u v : ℤ) (H : ℕ) (x y : ℤ) → corner (pair u v) H (pair x y) ≡ pair (u +ℤ pos H *ℤ x) (v +ℤ pos H *ℤ y)
corner_pair u v H x y = fun_ext go
  where
    go : (n : ℕ) → corner (pair u v) H (pair x y) n ≡ pair (u +ℤ pos H *ℤ x) (v +ℤ pos H *ℤ y) n
    go zero = refl
    go (suc n) = refl

module _ (d S : ℕ) (A : ℕ → ℕ → ℤ) (u : Point) (H : ℕ) (x y : ℤ) where
  abbrev whole : ℕ → ℕ → ℤ
  whole i j = local (plane d S A) u H (i ∷ j ∷ [])

  all_terms : (a b : ℕ) → a + b ≤ d → local (plane d S A) (corner u H (pair x y)) H (a ∷ b ∷ []) ≡ sum (0 ⋯ d) (λ i. sum (0 ⋯ (d - i)) (λ j. moved_term whole x y (pos 1) a b i j))
  unfolding powers chooses ◌∸◌
  all_terms a b l = local_part (plane d S A) u H (pair x y) (a ∷ b ∷ []) (pair_index d S A a b l) ∙ sum_plane d (λ e. _) ∙ sum_cong (0 ⋯ d) (λ i m. sum_cong (0 ⋯ (d - i)) (λ j k.
      rw (Nat.mul-one (choose j b), *ℤ_idr (pow y (j - b)), one_pow (a + b))
      (ring (whole i j ∷ pos (choose i a) ∷ pos (choose j b) ∷ pow x (i - a) ∷ pow y (j - b) ∷ []) (λ g c e p q. g ⊗ (c ⊗ e) ⊗ (p ⊗ q) ≐ g ⊗ c ⊗ e ⊗ p ⊗ q ⊗ # 1) tt)))

  -- the local form of the part, from that of the whole with the half-side of the part
  pub local_part_plane : (a b : ℕ) → a + b ≤ d → local (plane d S A) (corner u H (pair x y)) H (a ∷ b ∷ []) ≡ moved d whole x y (pos 1) a b
  unfolding moved
  local_part_plane a b l =
      let t : ℕ → ℕ → ℤ = moved_term whole x y (pos 1) a b in
      let first : (i : ℕ) → i < a → sum (0 ⋯ (d - i)) (t i) ≡ pos 0 = λ i l. sum_cong (0 ⋯ (d - i)) (λ j k. simp (choose_over i a l, *ℤ-zero, zero-*ℤ)) ∙ sum_zero (0 ⋯ (d - i)) in
      let second : (i j : ℕ) → j < b → t i j ≡ pos 0 = λ i j l. simp (choose_over j b l, *ℤ-zero, zero-*ℤ) in
      all_terms a b l ∙ sum_⋯_from a d (λ i. sum (0 ⋯ (d - i)) (t i)) first ∙ sum_cong (a ⋯ d) (λ i m. sum_⋯_from b (d - i) (t i) (second i))
