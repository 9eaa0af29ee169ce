-- What a sheet holds.
use Rattle.std.specs.Prelude.{◌≡◌, List, ℕ, ◌+◌, ◌*◌, ◌/◌, ◌≤◌, ℤ, pos, nat_abs, length, get_or}
use Rattle.algebra.specs.Triangle.{place}
-- a mode: 0 modified affine, 1 centred form. It stands apart from the sheet, since check and point calls take none
pub use Rattle.forms.specs.Bounds.{mode_of}

pub record Sheet : Type 0 where
  -- a degree d
  pub d : ℕ
  -- coefficients A(i,j) for i + j at most d, in the order i = 0..d and within it j = 0..d-i. That each is a signed 32-bit number is the calls' own type
  pub coefficients : List ℤ
  -- a square with whole-number corner (X, Y)
  pub X : ℤ
  pub Y : ℤ
  -- and side 2^s
  pub s : ℕ
  -- a depth k. The finest grid has 2^k by 2^k cells
  pub k : ℕ

-- the sheet of a call's inputs
abbrev pub sheet_of : ℕ → List ℤ → ℤ → ℤ → ℕ → ℕ → Sheet
sheet_of d A X Y s k = record { d = d; coefficients = A; X = X; Y = Y; s = s; k = k }

-- n = (d+1)(d+2)/2 numbers
abbrev pub count : ℕ → ℕ
count d = (d + 1) * (d + 2) / 2

-- A(i,j), by its place in that order
abbrev pub A : Sheet → ℕ → ℕ → ℤ
A S i j = get_or S.coefficients (place S.d i j) (pos 0)

-- ---- the ranges: d from 0 to 8, at most 45 coefficients; X and Y from -1,048,576 to 1,048,576; s from 0 to 10; k from 0 to 7
pub record InRange (S : Sheet) : Type 0 where
  pub degree : S.d ≤ 8
  pub counted : length S.coefficients ≡ count S.d
  pub depth : S.k ≤ 7
  pub corner_x : nat_abs S.X ≤ 1_048_576
  pub corner_y : nat_abs S.Y ≤ 1_048_576
  pub side : S.s ≤ 10
