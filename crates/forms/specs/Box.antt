-- The closed box of centre u and half-side H, its points and its corners.
use Rattle.std.specs.Prelude.{◌≡◌, ℕ, ◌*◌, ◌≤◌, pos, ◌+ℤ◌, ◌-ℤ◌, ◌*ℤ◌, nat_abs}
use Rattle.forms.specs.Points.{Point, Each}
use Rattle.forms.specs.Polynomial.{Polynomial, value}

-- the point x/Q lies in it
abbrev pub InBox : Polynomial → Point → ℕ → Point → ℕ → Type 0
InBox F u H x Q = Each F.variables (λ v. nat_abs (x v -ℤ pos Q *ℤ u v) ≤ Q * H)

-- it meets the curve: at some point with fractional coordinates in it the value is zero
pub record Meets (F : Polynomial) (u : Point) (H : ℕ) : Type 0 where
  pub x : Point
  pub Q : ℕ
  pub positive : 1 ≤ Q
  pub inside : InBox F u H x Q
  pub vanishes : value F x Q ≡ pos 0

-- ---- the corners u + H σ, for signs σ: 1 or -1 at each variable
abbrev pub Signs : Polynomial → Point → Type 0
Signs F σ = Each F.variables (λ v. nat_abs (σ v) ≡ 1)

abbrev pub corner : Point → ℕ → Point → Point
corner u H σ v = u v +ℤ pos H *ℤ σ v
