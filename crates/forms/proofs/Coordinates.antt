-- Only the coordinates at the polynomial's own variables count.
use mathlib.Core.Path.{◌≡◌, ap}
use Prim.Native.Nat.{ℕ, ◌-◌}
use lib.IntN.{pos, ◌*ℤ◌, pow}
use Rattle.algebra.proofs.Sum.{sum_cong}
use Rattle.forms.specs.Vectors.{total}
use Rattle.forms.specs.Points.{Point, Each}
use Rattle.forms.specs.Polynomial.{Polynomial, indices, scaled, value}
use Rattle.forms.proofs.Vectors.{vectors_fit}
use Rattle.forms.proofs.Points.{powers_agree}

module _ (F : Polynomial) (x y : Point) (h : Each F.variables (λ v. x v ≡ y v)) where
  pub value_agree : (Q : ℕ) → value F x Q ≡ value F y Q
  unfolding value
  value_agree Q = sum_cong (indices F) (λ e m.
      ap (λ p. scaled F e *ℤ p *ℤ pow (pos Q) (F.degree - total e)) (powers_agree e x y (rw (vectors_fit F.variables F.degree m).0 h)))
