-- The lines made from the records of a listing are the page's lines for the cells that are listed.
use mathlib.Core.Path.{◌≡◌, ap}
use mathlib.Core.List.{[], ◌∷◌, ◌++◌}
use Prim.Native.Nat.{ℕ, ◌^◌, ◌≤◌, ◌<◌}
use native.Mathlib.Omega.{arith}
use lib.Pow.{pow_mono}
use Rattle.verdicts.specs.Walking.{Verdicts, Cell, walking_order, those, is_listed, record_of, record_at, records, visited, coloured}
use Rattle.verdicts.proofs.Colours.{colour_of_small}
use Rattle.verdicts.proofs.Lists.{those_member, flat_map_map}
use Rattle.verdicts.proofs.Listing.{walked_on_grid}
use Rattle.verdicts.proofs.Records.{told}
use Rattle.page.specs.ListingText.{record_line, cell_line, total_line, listing_text}
use Rattle.writing.specs.Steps.{record_text, records_text}
use Rattle.writing.specs.Facts.{RecordsTell}

-- the record of a cell tells its level, its column, its row and its colour
record_tells : (c level p q : ℕ) → c ≤ 3 → p < 128 → q < 128 → record_text (record_of c level p q) ≡ record_line c level p q
record_tells c level p q h i j = let t = told c level p q h i j in rw (t.painted, t.depth, t.across, t.up)

cell_tells : (v : Verdicts) (c : Cell) → c.level ≤ 7 → c.column < 2 ^ c.level → c.row < 2 ^ c.level → record_text (record_at v c) ≡ cell_line v c
cell_tells v c l i j =
    let side : 2 ^ c.level ≤ 128 = pow_mono l in
    record_tells _ c.level c.column c.row (colour_of_small (v c.level c.column c.row ∷ [])) (omega arith) (omega arith)

pub records_tell : RecordsTell
unfolding records_text records listing_text
records_tell v k h = ap (λ l. l ++ total_line (visited v k) (coloured v k)) (flat_map_map (record_at v) record_text (those (is_listed v k) (walking_order k 0 0 0)) (λ c m.
    let (l, i, j) = walked_on_grid k c (those_member (is_listed v k) (walking_order k 0 0 0) c m) in
    cell_tells v c (omega arith) i j))
