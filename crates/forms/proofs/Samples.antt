-- The definitions tried on the page's numbers: P1 to P4 and P9, at the scale 2^(k+1).
use mathlib.Core.Path.{◌≡◌, refl}
use mathlib.Core.Bool.{◌&&◌, cond}
use mathlib.Core.List.{[], ◌∷◌, map, flat_map}
use Prim.Native.Nat.{ℕ, ◌^◌}
use native.Mathlib.Omega.{arith}
use lib.Dec.{eqb}
use lib.IntN.{ℤ, pos, negsuc, ◌+ℤ◌, pow, one}
use Rattle.algebra.specs.Sum.{sum, sumℕ, run, span, ◌⋯◌}
use Rattle.algebra.specs.Binomial.{choose, entry}
use Rattle.algebra.specs.MinMax.{minℤ, maxℤ}
use Rattle.forms.specs.Vectors.{total, vectors, chooses, ◌∸◌, all_even}
use Rattle.forms.specs.Points.{Point, powers, powersℕ}
use Rattle.forms.specs.Polynomial.{Polynomial, scaled, value}
use Rattle.forms.specs.Box.{InBox, corner}
use Rattle.forms.specs.LocalForm.{local}
use Rattle.forms.specs.Bounds.{affine, centred, low, high, lower, upper, bent, bend}
use Rattle.forms.specs.Weight.{weight, Limited}
use Rattle.forms.specs.Straight.{against, unit, zero_denominator, zero_point}
use Rattle.forms.specs.Plane.{pair, plane, along, across}
use Rattle.forms.proofs.Plane.{both}

-- c x^i y^j
pub monomial : ℤ → ℕ → ℕ → ℕ → ℕ → ℤ
monomial c i j k l = cond (eqb k i && eqb l j) c (pos 0)

-- the order of the coefficients: i = 0..d, and within it j = 0..d-i
pub order : vectors 2 2 ≡ (0 ∷ 0 ∷ []) ∷ (0 ∷ 1 ∷ []) ∷ (0 ∷ 2 ∷ []) ∷ (1 ∷ 0 ∷ []) ∷ (1 ∷ 1 ∷ []) ∷ (2 ∷ 0 ∷ []) ∷ []
unfolding vectors run span ◌⋯◌ flat_map
order = refl

-- ---- P9: x² on the square from (0,0) of side 1, with k 0. Its bounds are -1 and 4 in mode 0 and -2 and 4 in mode 1, its bend is 1, its corner values are 0 and 4
pub P9 : Polynomial
P9 = plane 2 2 (monomial (pos 1) 2 0)

abbrev pub centre : Point
centre = pair (pos 1) (pos 1)

pub corner_at : Point → ℤ
corner_at σ = value P9 (corner centre 1 σ) 1

pub bounds_P9 : (map (λ mode. lower P9 mode centre 1) (affine ∷ centred ∷ []) ≡ negsuc 0 ∷ negsuc 1 ∷ []) × (map (λ mode. upper P9 mode centre 1) (affine ∷ centred ∷ []) ≡ pos 4 ∷ pos 4 ∷ [])
unfolding P9 monomial lower low upper high all_even minℤ maxℤ local scaled powers chooses choose ◌∸◌ total vectors run span ◌⋯◌ flat_map sum pow one
bounds_P9 = (refl, refl)

-- in mode 1 the lower bound lies twice the bend below the least corner value: the limit on overshoot is met
pub bend_P9 : bend P9 centre 1 ≡ 1
unfolding P9 monomial bend bent local scaled powers chooses choose ◌∸◌ total vectors run span ◌⋯◌ flat_map sum sumℕ pow one
bend_P9 = refl

pub corners_P9 : map corner_at (pair (pos 1) (pos 1) ∷ pair (pos 1) (negsuc 0) ∷ pair (negsuc 0) (pos 1) ∷ pair (negsuc 0) (negsuc 0) ∷ []) ≡ pos 4 ∷ pos 4 ∷ pos 0 ∷ pos 0 ∷ []
unfolding corner_at P9 monomial value scaled powers total vectors run span ◌⋯◌ flat_map sum pow one
corners_P9 = refl

-- its corner (2,2) lies in it, and so does (5,6) / 3; (3,2) and (7,6) / 3 do not
pub inside_P9 : InBox P9 centre 1 (pair (pos 2) (pos 2)) 1 × InBox P9 centre 1 (pair (pos 5) (pos 6)) 3
unfolding P9
inside_P9 = (both _ (omega arith) (omega arith), both _ (omega arith) (omega arith))

pub outside_P9 : (InBox P9 centre 1 (pair (pos 3) (pos 2)) 1 → ⊥) × (InBox P9 centre 1 (pair (pos 7) (pos 6)) 3 → ⊥)
unfolding P9
outside_P9 = (λ b. let n = b 0 (omega arith) in omega arith, λ b. let n = b 0 (omega arith) in omega arith)

-- with the limit 1 for both variables the square is within the limits, and one of twice its side is beyond them
pub within_P9 : Limited P9 centre 1 (λ v. 1)
unfolding P9
within_P9 = both _ (omega arith) (omega arith)

pub beyond_P9 : Limited P9 centre 2 (λ v. 1) → ⊥
unfolding P9
beyond_P9 = λ b. let n = b 0 (omega arith) in omega arith

-- ---- P1 and P3: 8x² + 1 on the square from (-1,-1) of side 2, with k 1: bounds 16 and 144 in mode 0, -112 and 144 in mode 1. P2: on its cell (1,0) at level 1, -16 and 144, and -48 and 144
pub P1 : Polynomial
P1 = plane 2 4 (λ i j. monomial (pos 8) 2 0 i j +ℤ monomial (pos 1) 0 0 i j)

pub bounds_P1 : (map (λ mode. lower P1 mode (pair (pos 0) (pos 0)) 4) (affine ∷ centred ∷ []) ≡ pos 16 ∷ negsuc 111 ∷ []) × (map (λ mode. upper P1 mode (pair (pos 0) (pos 0)) 4) (affine ∷ centred ∷ []) ≡ pos 144 ∷ pos 144 ∷ [])
unfolding P1 monomial lower low upper high all_even minℤ maxℤ local scaled powers chooses choose ◌∸◌ total vectors run span ◌⋯◌ flat_map sum pow one
bounds_P1 = (refl, refl)

pub bounds_P2 : (map (λ mode. lower P1 mode (pair (pos 2) (negsuc 1)) 2) (affine ∷ centred ∷ []) ≡ negsuc 15 ∷ negsuc 47 ∷ []) × (map (λ mode. upper P1 mode (pair (pos 2) (negsuc 1)) 2) (affine ∷ centred ∷ []) ≡ pos 144 ∷ pos 144 ∷ [])
unfolding P1 monomial lower low upper high all_even minℤ maxℤ local scaled powers chooses choose ◌∸◌ total vectors run span ◌⋯◌ flat_map sum pow one
bounds_P2 = (refl, refl)

-- ---- weights: P1 with the limits 1 and 1 weighs 144; x y² with d 3, k 0 and the limits 2 and 3 weighs 8 · 2 · 9; x⁴ with d 4, k 7 and the limits 1 and 1,025 weighs 2^32
pub weights : (weight P1 (λ v. 1) ≡ 144) × (weight (plane 3 2 (monomial (pos 1) 1 2)) (pair 2 3) ≡ 144) × (weight (plane 4 256 (monomial (pos 1) 4 0)) (pair 1 1025) ≡ 2 ^ 32)
unfolding P1 monomial weight powersℕ vectors run span ◌⋯◌ flat_map sumℕ
weights = (refl, refl, refl)

-- ---- P4: x - y on its cell (1,0) at level 1, with bounds 0 and 4, touches the curve at (8,8) / 4, the corner (2,2)
pub P4 : Polynomial
P4 = plane 1 4 (λ i j. monomial (pos 1) 1 0 i j +ℤ monomial (negsuc 0) 0 1 i j)

abbrev pub lower_right : Point
lower_right = pair (pos 3) (pos 1)

pub bounds_P4 : (map (λ mode. lower P4 mode lower_right 1) (affine ∷ centred ∷ []) ≡ pos 0 ∷ pos 0 ∷ []) × (map (λ mode. upper P4 mode lower_right 1) (affine ∷ centred ∷ []) ≡ pos 4 ∷ pos 4 ∷ [])
unfolding P4 monomial lower low upper high all_even minℤ maxℤ local scaled powers chooses choose ◌∸◌ total vectors run span ◌⋯◌ flat_map sum pow one
bounds_P4 = (refl, refl)

pub touch_P4 : (zero_denominator P4 affine lower_right 1 ≡ 4) × (map (zero_point P4 affine lower_right 1) (0 ∷ 1 ∷ []) ≡ pos 8 ∷ pos 8 ∷ [])
unfolding zero_denominator zero_point P4 against unit monomial lower low upper high all_even minℤ maxℤ local scaled powers chooses choose ◌∸◌ total vectors run span ◌⋯◌ flat_map sum pow one
touch_P4 = (refl, refl)

-- ---- x y² moved by 2 along is x (4 + 4 y + y²), and by -1 across too (x - 1) (4 + 4 y + y²): it has 1 at x y² and -4 at y
pub moves : (map (along 3 (monomial (pos 1) 1 2) (pos 2) 1) (0 ⋯ 3) ≡ pos 4 ∷ pos 4 ∷ pos 1 ∷ pos 0 ∷ [])
    × (map (λ i. along 3 (monomial (pos 1) 1 2) (pos 2) i 0) (0 ⋯ 2) ≡ pos 0 ∷ pos 4 ∷ pos 0 ∷ [])
    × (across 3 (along 3 (monomial (pos 1) 1 2) (pos 2)) (negsuc 0) 1 2 ≡ pos 1)
    × (across 3 (along 3 (monomial (pos 1) 1 2) (pos 2)) (negsuc 0) 0 1 ≡ negsuc 3)
unfolding along across monomial choose entry run span ◌⋯◌ sum pow one
moves = (refl, refl, refl, refl)
