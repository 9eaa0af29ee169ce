-- Checked sheets: the page's sheets P1 to P10, with Y = X throughout, and the sheet of #102. Figures are computed on them here and in the crates above; the starred ones stand in the crate `starred`.
use Rattle.std.specs.Prelude.{List, [], ◌∷◌, ◌++◌, ℕ, ℤ, pos, neg_ℤ, replicate}
use Rattle.page.specs.Sheet.{Sheet, sheet_of}

-- -n, as the page writes a negative number
abbrev pub minus : ℕ → ℤ
minus n = neg_ℤ (pos n)

-- by degree, coefficients, corner, side and depth
abbrev pub square : ℕ → List ℤ → ℤ → ℕ → ℕ → Sheet
square d A X s k = sheet_of d A X X s k

-- f = 8x² + 1, d 2, X -1, s 1, k 1; the same sheet for P2 and P3
abbrev pub P1 : Sheet
P1 = square 2 (pos 1 ∷ pos 0 ∷ pos 0 ∷ pos 0 ∷ pos 0 ∷ pos 8 ∷ []) (minus 1) 1 1

-- f = x - y, d 1, X 0, s 0; k 1, and for P5 k 2
abbrev pub difference : ℕ → Sheet
difference k = square 1 (pos 0 ∷ minus 1 ∷ pos 1 ∷ []) (pos 0) 0 k

abbrev pub P4 : Sheet
P4 = difference 1

abbrev pub P5 : Sheet
P5 = difference 2

-- f = 0, d 0, k 0, X 0, s 0
abbrev pub P6 : Sheet
P6 = square 0 (pos 0 ∷ []) (pos 0) 0 0

-- f = -5, d 0, k 7, X 0, s 0
abbrev pub P7 : Sheet
P7 = square 0 (minus 5 ∷ []) (pos 0) 0 7

-- f = xy, d 2, X -1, s 1, k 0
abbrev pub P8 : Sheet
P8 = square 2 (pos 0 ∷ pos 0 ∷ pos 0 ∷ pos 0 ∷ pos 1 ∷ pos 0 ∷ []) (minus 1) 1 0

-- f = x², d 2, X 0, s 0, k 0
abbrev pub P9 : Sheet
P9 = square 2 (pos 0 ∷ pos 0 ∷ pos 0 ∷ pos 0 ∷ pos 0 ∷ pos 1 ∷ []) (pos 0) 0 0

-- f constant, d 8, k 6, X 0, s 0: 63 is accepted, 64 is refused by 6
abbrev pub P10 : ℕ → Sheet
P10 n = square 8 (pos n ∷ replicate 44 (pos 0)) (pos 0) 0 6

-- the sheet of #102: f = x⁴, d 4, k 7, X 0, Y 1,024, s 0
abbrev pub far_along_y : Sheet
far_along_y = sheet_of 4 (replicate 14 (pos 0) ++ (pos 1 ∷ [])) (pos 0) (pos 1_024) 0 7
