-- The definitions at the page's numbers, computed: figures of single cells, small walks, and the edges of the refusal table. The starred figures stand in the crate `starred`, and few of them here.
use mathlib.Core.Path.{◌≡◌, refl}
use mathlib.Core.List.{[], ◌∷◌, ◌++◌}
use Prim.Native.Nat.{ℕ, ◌^◌}
use native.Mathlib.Omega.{arith}
use lib.IntN.{ℤ, pos, negsuc, pow, one}
use lib.ListN.{replicate}
use Rattle.algebra.specs.Sum.{sum, sumℕ, run, span, ◌⋯◌}
use Rattle.algebra.specs.Binomial.{choose}
use Rattle.algebra.specs.MinMax.{minℤ, maxℤ, largest}
use Rattle.algebra.specs.Triangle.{row_start}
use Rattle.algebra.specs.Digits.{digits}
use Rattle.forms.specs.Bounds.{affine, centred}
use Rattle.verdicts.specs.Judging.{judged}
use Rattle.verdicts.specs.declared.Verdict.TheVariants.{Above, Below, Open}
use Rattle.page.specs.Sheet.{Sheet, sheet_of, A}
use Rattle.page.specs.CheckedSheets.{square, P1, P4, P5, P7, P9, P10, far_along_y}
use Rattle.page.specs.Scaled.{F, value_at, half_side, U0, V0, InCell}
use Rattle.page.specs.LocalForm.{G}
use Rattle.page.specs.Bounds.{lower, upper, bend, verdict}
use Rattle.verdicts.specs.Walking.{colour, raster, visited, coloured, largest_bend}
use Rattle.page.specs.Weight.{axis_limit, Rx, Ry, weight, spare}
use Rattle.page.specs.Refusals.{to_check, at_point, in_cell, to_walk, table, first, refusal}

-- one coefficient at the first of 45 places, and zeros
abbrev constant : ℤ → ℕ → ℕ → Sheet
constant c d k = square d (c ∷ replicate 44 (pos 0)) (pos 0) 0 k

-- ---- scaled numbers
order : (A P4 0 0 ≡ pos 0) × (A P4 0 1 ≡ negsuc 0) × (A P4 1 0 ≡ pos 1)
unfolding sumℕ run span row_start
order = (refl, refl, refl)

cells : (half_side P1 0 ≡ 4) × (half_side P1 1 ≡ 2) × (U0 P1 0 0 ≡ pos 0) × (U0 P1 1 1 ≡ pos 2) × (V0 P1 1 0 ≡ negsuc 1)
cells = (refl, refl, refl, refl, refl)

values : (F P9 (pos 2) (pos 0) ≡ pos 4) × (F P4 (pos 3) (pos 1) ≡ pos 2) × (F P1 (negsuc 3) (pos 0) ≡ pos 144) × (value_at P4 (pos 3) (pos 1) 2 ≡ pos 2) × (value_at P1 (pos 1) (pos 0) 3 ≡ pos 152)
unfolding pow one sum sumℕ run span ◌⋯◌ row_start F value_at
values = (refl, refl, refl, refl, refl)

-- the cell is closed: its corner and a point on its edge lie in it
on_the_edge : InCell P4 1 0 0 (pos 2) (pos 2) 1 × InCell P4 1 1 0 (pos 4) (pos 3) 2
on_the_edge = (record { across = omega arith; along = omega arith }, record { across = omega arith; along = omega arith })

-- ---- bounds, bend, verdict
form_P1 : (G P1 1 1 0 0 0 ≡ pos 48) × (G P1 1 1 0 1 0 ≡ pos 64) × (G P1 1 1 0 2 0 ≡ pos 32) × (G P1 1 1 0 0 1 ≡ pos 0)
unfolding pow one sum sumℕ run span ◌⋯◌ choose row_start G
form_P1 = (refl, refl, refl, refl)

-- touching a corner counts: a lower bound of 0 is open
verdicts : (verdict P1 affine 0 0 0 ≡ Above (pos 16) (pos 144) 128) × (verdict P4 affine 1 1 0 ≡ Open (pos 0) (pos 4) 0) × (verdict P7 centred 7 127 0 ≡ Below (negsuc 4) (negsuc 4) 0)
unfolding pow one sum sumℕ run span ◌⋯◌ choose minℤ maxℤ row_start judged G lower upper bend
verdicts = (refl, refl, refl)

-- ---- weight
-- f = xy², d 3, k 0, X 1, Y 2, s 0: the limits 2 and 3
abbrev xy² : Sheet
xy² = sheet_of 3 (replicate 6 (pos 0) ++ (pos 1 ∷ replicate 3 (pos 0))) (pos 1) (pos 2) 0 0

weights : (axis_limit (negsuc 7) 2 ≡ 8) × (axis_limit (pos 5) 3 ≡ 13) × (Rx P1 ≡ 1) × (Ry P1 ≡ 1) × (weight P1 ≡ 144) × (weight xy² ≡ 144)
unfolding sumℕ run span ◌⋯◌ row_start weight
weights = (refl, refl, refl, refl, refl, refl)

-- far out along one axis (#102): the request's sheet, and f = y⁴ far out along x
abbrev far_along_x : Sheet
far_along_x = sheet_of 4 (replicate 4 (pos 0) ++ (pos 1 ∷ replicate 10 (pos 0))) (pos 1_024) (pos 0) 0 7

far : (Rx far_along_y ≡ 1) × (Ry far_along_y ≡ 1_025) × (weight far_along_y ≡ 2 ^ 32) × (spare far_along_y ≡ 29) × (weight far_along_x ≡ 2 ^ 32)
unfolding sumℕ run span ◌⋯◌ row_start digits weight
far = (refl, refl, refl, refl, refl)

-- ---- the refusal table: each row at its edge, and the first of several
refusals : (refusal (to_check (P10 63)) ≡ 0) × (refusal (to_check (P10 64)) ≡ 6) × (refusal (to_check (constant (pos 0) 8 7)) ≡ 0) × (refusal (to_check (constant (pos 1) 8 7)) ≡ 6)
    × (refusal (to_check (constant (negsuc 0) 9 8)) ≡ 1) × (refusal (to_check (constant (pos 1) 7 8)) ≡ 2) × (refusal (to_check (constant (pos 1) 8 8)) ≡ 3)
unfolding sumℕ run span ◌⋯◌ row_start weight table first
refusals = (refl, refl, refl, refl, refl, refl, refl)

frames : (refusal (to_check (square 0 (pos 1 ∷ []) (pos 1_048_576) 10 7)) ≡ 0) × (refusal (to_check (square 0 (pos 1 ∷ []) (pos 1_048_577) 10 7)) ≡ 4) × (refusal (to_check (square 0 (pos 1 ∷ []) (negsuc 1_048_575) 0 0)) ≡ 0)
    × (refusal (to_check (square 0 (pos 1 ∷ []) (negsuc 1_048_576) 0 0)) ≡ 4) × (refusal (to_check (square 0 (pos 1 ∷ []) (pos 0) 11 0)) ≡ 4)
unfolding sumℕ run span ◌⋯◌ row_start weight table first
frames = (refl, refl, refl, refl, refl)

cells_refused : (refusal (in_cell P9 2 0 0 0) ≡ 5) × (refusal (in_cell P9 1 0 0 0) ≡ 0) × (refusal (in_cell P9 1 1 0 0) ≡ 8) × (refusal (in_cell P1 0 1 2 0) ≡ 8) × (refusal (in_cell P1 0 1 1 1) ≡ 0) × (refusal (in_cell P1 0 1 1 2) ≡ 8)
    × (refusal (in_cell (P10 64) 2 9 0 0) ≡ 5) × (refusal (in_cell (P10 64) 1 9 0 0) ≡ 6)
unfolding sumℕ run span ◌⋯◌ row_start weight table first
cells_refused = (refl, refl, refl, refl, refl, refl, refl, refl)

-- the closed square: its corners are points of it
points_refused : (refusal (at_point P1 (negsuc 3) (pos 4)) ≡ 0) × (refusal (at_point P1 (negsuc 4) (pos 4)) ≡ 8) × (refusal (at_point P1 (pos 4) (pos 5)) ≡ 8) × (refusal (at_point (P10 64) (negsuc 0) (pos 0)) ≡ 6)
unfolding sumℕ run span ◌⋯◌ row_start weight table first
points_refused = (refl, refl, refl, refl)

-- ---- P5, and P13's three places: 3, 4 and 5 entries at k 1
walks : (visited (verdict P5 affine) 2 ≡ 21) × (coloured (verdict P5 affine) 2 ≡ 10) × (raster (verdict P1 affine) 1 ≡ 2 ∷ 2 ∷ 2 ∷ 2 ∷ [])
    × (raster (verdict P5 centred) 2 ≡ 1 ∷ 1 ∷ 2 ∷ 2 ∷ 1 ∷ 1 ∷ 1 ∷ 2 ∷ 3 ∷ 1 ∷ 1 ∷ 1 ∷ 3 ∷ 3 ∷ 1 ∷ 1 ∷ []) × (visited (verdict (square 2 P1.coefficients (negsuc 0) 1 2) affine) 2 ≡ 1)
unfolding pow one sum sumℕ run span ◌⋯◌ choose minℤ maxℤ row_start judged G lower upper colour raster visited coloured
walks = (refl, refl, refl, refl, refl)

-- the label's bend (#101): 32 in each of P1's four cells in mode 1, none coloured in mode 0; P9's one cell; P5 is straight
bends : (largest_bend (verdict P1 centred) 1 ≡ 32) × (largest_bend (verdict P1 affine) 1 ≡ 0) × (largest_bend (verdict P9 affine) 0 ≡ 1) × (largest_bend (verdict P5 affine) 2 ≡ 0)
unfolding pow one sum sumℕ largest run span ◌⋯◌ choose minℤ maxℤ row_start judged G lower upper bend colour largest_bend
bends = (refl, refl, refl, refl)

places_refused : (refusal (to_walk P4 0 3) ≡ 7) × (refusal (to_walk P4 0 4) ≡ 0) × (refusal (to_walk P4 1 5) ≡ 0) × (refusal (to_walk P4 2 3) ≡ 5)
unfolding pow one sum sumℕ run span ◌⋯◌ choose minℤ maxℤ row_start judged G lower upper weight visited table first
places_refused = (refl, refl, refl, refl)
