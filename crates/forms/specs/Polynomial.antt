-- A polynomial in any number of variables, and its values at points with fractional coordinates.
use Rattle.std.specs.Prelude.{◌≡◌, List, ℕ, ◌*◌, ◌-◌, ◌≤◌, ℤ, pos, ◌*ℤ◌, length}
use Rattle.std.proofs.Math.IntN.{pow}
use Rattle.algebra.specs.Sum.{sum}
use Rattle.forms.specs.Vectors.{total, vectors}
use Rattle.forms.specs.Points.{Point, powers}

-- n variables, a degree d, a coefficient A(e) for each vector e with |e| ≤ d, and a scale S: lengths are counted in units of 1/S
pub record Polynomial : Type 0 where
  pub variables : ℕ
  pub degree : ℕ
  pub scale : ℕ
  pub coefficient : List ℕ → ℤ

-- e has an exponent for each variable, and |e| ≤ d; all such e, in order
abbrev pub Index : Polynomial → List ℕ → Type 0
Index F e = (length e ≡ F.variables) × (total e ≤ F.degree)

abbrev pub indices : Polynomial → List (List ℕ)
indices F = vectors F.variables F.degree

-- A(e) S^(d-|e|)
unfoldable pub scaled : Polynomial → List ℕ → ℤ
scaled F e = F.coefficient e *ℤ pow (pos F.scale) (F.degree - total e)

-- ---- the value at the point x/Q, times Q^d: the sum of A(e) S^(d-|e|) x^e Q^(d-|e|)
abbrev pub value_term : Polynomial → Point → ℕ → List ℕ → ℤ
value_term F x Q e = scaled F e *ℤ powers x e *ℤ pow (pos Q) (F.degree - total e)

unfoldable pub value : Polynomial → Point → ℕ → ℤ
value F x Q = sum (indices F) (λ e. value_term F x Q e)

-- ---- the same polynomial, with lengths counted in units c times as fine
abbrev pub finer : ℕ → Polynomial → Polynomial
finer c F = record { variables = F.variables; degree = F.degree; scale = c * F.scale; coefficient = F.coefficient }
