-- What is written of a listing is the page's text, as a statement. That it holds is proofs/Tells.
use Rattle.std.specs.Prelude.{◌≡◌, ◌++◌, ℕ, ◌≤◌}
use Rattle.verdicts.specs.Walking.{Verdicts, records, visited, coloured}
use Rattle.page.specs.ListingText.{total_line, listing_text}
use Rattle.writing.specs.Steps.{records_text}

-- the lines made from the records are those of the cells that are listed
abbrev pub RecordsTell : Type 0
RecordsTell = (v : Verdicts) (k : ℕ) → k ≤ 7 → records_text (records v k) ++ total_line (visited v k) (coloured v k) ≡ listing_text v k
