-- The local form over the box of centre u and half-side H: G(a), the sum of A(e) S^(d-|e|) C(e,a) u^(e-a) H^|a|.
use Rattle.std.specs.Prelude.{List, ℕ, ℤ, pos, ◌*ℤ◌}
use Rattle.std.proofs.Math.IntN.{pow}
use Rattle.algebra.specs.Sum.{sum}
use Rattle.forms.specs.Vectors.{total, chooses, ◌∸◌}
use Rattle.forms.specs.Points.{Point, powers}
use Rattle.forms.specs.Polynomial.{Polynomial, indices, scaled}

abbrev pub local_term : Polynomial → Point → ℕ → List ℕ → List ℕ → ℤ
local_term F u H a e = scaled F e *ℤ pos (chooses e a) *ℤ powers u (e ∸ a) *ℤ pow (pos H) (total a)

unfoldable pub local : Polynomial → Point → ℕ → List ℕ → ℤ
local F u H a = sum (indices F) (λ e. local_term F u H a e)
