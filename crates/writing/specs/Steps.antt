-- What the contracts say of the bytes that are written. None of it is the page's.
use mathlib.Core.List.{List, ◌∷◌, flat_map}
use Rattle.std.specs.Prelude.{ℕ, ◌≤◌, length}
use Rattle.algebra.specs.Written.{Written}
use Rattle.verdicts.specs.Facts.{colour_in, level_in, column_in, row_in}
use Rattle.page.specs.ListingText.{decimal, record_line}

-- the line of a record
abbrev pub record_text : ℕ → List ℕ
record_text r = record_line (colour_in r) (level_in r) (column_in r) (row_in r)

-- the lines of records, one after the other
unfoldable pub records_text : List ℕ → List ℕ
records_text rs = flat_map record_text rs

-- numbers, each after a tab
unfoldable pub tabbed : List ℕ → List ℕ
tabbed ns = flat_map (λ n. 9 ∷ decimal n) ns

-- the bytes are written from `at` on, and no other byte of the place changes; r is where they end, within the place
pub record Put (at : ℕ) (bytes old now : List ℕ) (r : ℕ) : Type 0 where
  pub put : Written bytes at old now r
  pub fits : r ≤ length old
