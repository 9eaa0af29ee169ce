-- Checked sheets: those with a star, as one table of sheets and the figures that the page gives of them.
use Rattle.std.specs.Prelude.{◌≡◌, Bool, true, ◌&&◌, List, [], ◌∷◌, ℕ, eqb, ℤ, pos, length}
use Rattle.std.specs.Int.Signed.{le_z}
use Rattle.page.specs.Sheet.{Sheet, mode_of}
use Rattle.page.specs.CheckedSheets.{minus, P1, P4, P6, P7, P8, P9, P10}
use Rattle.page.specs.Bounds.{verdict}
use Rattle.verdicts.specs.Walking.{visited, coloured, raster}
use Rattle.probe.specs.Answers.{checked, states_weight, valued, states_value, bounded, states_bounds}

-- ---- a figure of a sheet: what a call answers, or a count of the walk. The mode comes first; a cell is level, column, row
pub data Figure : Type 0 where
  -- the two bounds that `bounds` answers, and the bend
  bounds_are : ℕ → ℕ → ℕ → ℕ → ℤ → ℤ → Figure
  bend_is : ℕ → ℕ → ℕ → ℕ → ℕ → Figure
  -- what `value` answers at a point
  value_is : ℤ → ℤ → ℤ → Figure
  -- what `check` answers: weight and spare places, or a refusal, with no number stated beside its own
  accepted : Figure
  weight_is : ℕ → Figure
  spare_is : ℕ → Figure
  refused_by : ℕ → Figure
  -- the tally, and the raster's bytes: how many, and each of them
  visited_are : ℕ → ℕ → Figure
  coloured_are : ℕ → ℕ → Figure
  bytes_are : ℕ → ℕ → ℕ → Figure

abbrev pub eqZ : ℤ → ℤ → Bool
eqZ a b = le_z a b && le_z b a

abbrev pub every : List ℕ → ℕ → Bool
every [] n = true
every (x ∷ xs) n = eqb x n && every xs n

unfoldable pub holds : Sheet → Figure → Bool
holds S (bounds_are m j p q l u) = let r = states_bounds (bounded S m j p q) in eqb r.number 0 && eqZ r.lower l && eqZ r.upper u
holds S (bend_is m j p q n) = let r = states_bounds (bounded S m j p q) in eqb r.number 0 && eqb r.bend n
holds S (value_is u v z) = let r = states_value (valued S u v) in eqb r.number 0 && eqZ r.value z
holds S accepted = eqb (states_weight (checked S)).number 0
holds S (weight_is n) = let r = states_weight (checked S) in eqb r.number 0 && eqb r.weight n
holds S (spare_is n) = let r = states_weight (checked S) in eqb r.number 0 && eqb r.spare n
holds S (refused_by n) = let r = states_weight (checked S) in eqb r.number n && eqb r.weight 0 && eqb r.spare 0
holds S (visited_are m n) = eqb (visited (verdict S (mode_of m)) S.k) n
holds S (coloured_are m n) = eqb (coloured (verdict S (mode_of m)) S.k) n
holds S (bytes_are m count n) = eqb (length (raster (verdict S (mode_of m)) S.k)) count && every (raster (verdict S (mode_of m)) S.k) n

-- ---- the table
pub record Star : Type 0 where
  pub of : Sheet
  pub figure : Figure

infix 3 ◌has◌
abbrev ◌has◌ : Sheet → Figure → Star
S has f = record { of = S; figure = f }

unfoldable pub starred : List Star
starred =
    -- P1
    (P1 has bounds_are 0 0 0 0 (pos 16) (pos 144))
    ∷ (P1 has visited_are 0 1)
    ∷ (P1 has coloured_are 0 0)
    ∷ (P1 has weight_is 144)
    ∷ (P1 has spare_is 54)
    -- P2
    ∷ (P1 has bounds_are 0 1 1 0 (minus 16) (pos 144))
    -- P3
    ∷ (P1 has bounds_are 1 0 0 0 (minus 112) (pos 144))
    ∷ (P1 has bounds_are 1 1 1 0 (minus 48) (pos 144))
    ∷ (P1 has visited_are 1 5)
    ∷ (P1 has coloured_are 1 4)
    -- P4
    ∷ (P4 has bounds_are 0 1 0 0 (minus 2) (pos 2))
    ∷ (P4 has bounds_are 1 1 0 0 (minus 2) (pos 2))
    ∷ (P4 has bounds_are 0 1 1 0 (pos 0) (pos 4))
    ∷ (P4 has bounds_are 1 1 1 0 (pos 0) (pos 4))
    ∷ (P4 has bounds_are 0 1 0 1 (minus 4) (pos 0))
    ∷ (P4 has bounds_are 1 1 0 1 (minus 4) (pos 0))
    ∷ (P4 has coloured_are 0 4)
    ∷ (P4 has coloured_are 1 4)
    ∷ (P4 has bytes_are 0 4 1)
    ∷ (P4 has bytes_are 1 4 1)
    -- P6
    ∷ (P6 has bounds_are 0 0 0 0 (pos 0) (pos 0))
    ∷ (P6 has bounds_are 1 0 0 0 (pos 0) (pos 0))
    ∷ (P6 has coloured_are 0 1)
    ∷ (P6 has coloured_are 1 1)
    ∷ (P6 has weight_is 0)
    ∷ (P6 has spare_is 62)
    -- P7
    ∷ (P7 has visited_are 0 1)
    ∷ (P7 has visited_are 1 1)
    ∷ (P7 has bytes_are 0 16_384 3)
    ∷ (P7 has bytes_are 1 16_384 3)
    -- P8
    ∷ (P8 has bounds_are 0 0 0 0 (minus 4) (pos 4))
    ∷ (P8 has bounds_are 1 0 0 0 (minus 4) (pos 4))
    -- P9
    ∷ (P9 has bounds_are 0 0 0 0 (minus 1) (pos 4))
    ∷ (P9 has bounds_are 1 0 0 0 (minus 2) (pos 4))
    ∷ (P9 has bend_is 0 0 0 0 1)
    ∷ (P9 has bend_is 1 0 0 0 1)
    ∷ (P9 has value_is (pos 0) (pos 0) (pos 0))
    ∷ (P9 has value_is (pos 2) (pos 0) (pos 4))
    ∷ (P9 has value_is (pos 0) (pos 2) (pos 0))
    ∷ (P9 has value_is (pos 2) (pos 2) (pos 4))
    -- P10
    ∷ (P10 63 has accepted)
    ∷ (P10 64 has refused_by 6)
    ∷ []

-- every figure of the table holds
unfoldable pub all_hold : List Star → Bool
all_hold [] = true
all_hold (r ∷ rs) = holds r.of r.figure && all_hold rs

-- ---- the table holds
abbrev pub StarredHold : Type 0
StarredHold = all_hold starred ≡ true
