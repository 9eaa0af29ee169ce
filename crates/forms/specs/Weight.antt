-- The weight, with a limit R(v) for each variable.
use Rattle.std.specs.Prelude.{List, ℕ, ◌+◌, ◌*◌, ◌^◌, ◌≤◌, nat_abs}
use Rattle.algebra.specs.Sum.{sumℕ}
use Rattle.forms.specs.Points.{Point, Each, powersℕ}
use Rattle.forms.specs.Polynomial.{Polynomial, indices, scaled}

-- S^d times the sum of |A(e)| R^e
unfoldable pub weight : Polynomial → (ℕ → ℕ) → ℕ
weight F R = F.scale ^ F.degree * sumℕ (indices F) (λ e. nat_abs (F.coefficient e) * powersℕ R e)

-- the box lies within the limits: |u| + H ≤ S R at each variable; so does the whole point x: |x| ≤ S R
abbrev pub Limited : Polynomial → Point → ℕ → (ℕ → ℕ) → Type 0
Limited F u H R = Each F.variables (λ v. nat_abs (u v) + H ≤ F.scale * R v)

abbrev pub PointLimited : Polynomial → Point → (ℕ → ℕ) → Type 0
PointLimited F x R = Each F.variables (λ v. nat_abs (x v) ≤ F.scale * R v)

-- the share of e in the weight, as what comes from the coefficient at e is bounded: |A(e)| S^(d-|e|) (S R)^e
unfoldable pub majorant : Polynomial → (ℕ → ℕ) → List ℕ → ℕ
majorant F R e = nat_abs (scaled F e) * powersℕ (λ v. F.scale * R v) e
