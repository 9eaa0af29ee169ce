-- Where nothing bends: the point of the box at which the value is zero, from the two bounds and the signs of the linear terms.
use Rattle.std.specs.Prelude.{List, [], ◌∷◌, ℕ, zero, suc, max, ℤ, pos, negsuc, ◌+ℤ◌, ◌-ℤ◌, ◌*ℤ◌, nat_abs, replicate}
use Rattle.forms.specs.Points.{Point}
use Rattle.forms.specs.Polynomial.{Polynomial}
use Rattle.forms.specs.LocalForm.{local}
use Rattle.forms.specs.Bounds.{Mode, lower, upper}

-- the sign against g
unfoldable pub against : ℤ → ℤ
against (pos n) = negsuc 0
against (negsuc n) = pos 1

-- the vector of the variable v: 1 there and 0 at the others
unfoldable pub unit : ℕ → ℕ → List ℕ
unit zero v = []
unit (suc n) zero = 1 ∷ replicate n 0
unit (suc n) (suc v) = 0 ∷ unit n v

-- at each of n variables the sign against the linear coefficient
abbrev pub turning : ℕ → (List ℕ → ℤ) → Point
turning n G v = against (G (unit n v))

-- Q is upper - lower, or 1 where that is 0
unfoldable pub zero_denominator : Polynomial → Mode → Point → ℕ → ℕ
zero_denominator F mode u H = max 1 (nat_abs (upper F mode u H -ℤ lower F mode u H))

-- x is Q u + H (lower + upper) σ, with the signs σ against the linear coefficients
unfoldable pub zero_point : Polynomial → Mode → Point → ℕ → Point
zero_point F mode u H v = pos (zero_denominator F mode u H) *ℤ u v +ℤ pos H *ℤ ((lower F mode u H +ℤ upper F mode u H) *ℤ turning F.variables (local F u H) v)
