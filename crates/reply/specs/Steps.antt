-- What the contracts of inner functions say. None of it is the page's.
use Rattle.std.specs.Prelude.{◌≡◌, List, ℕ, Result}
use Rattle.page.specs.declared.Refusal.{Refusal}
use Rattle.page.specs.Refusals.{refusal}
use Rattle.page.specs.Numbers.{number_of}
use Rattle.page.specs.SheetText.{Said, sheet_in, to_read, Outcome, accepted}
use Rattle.page.specs.ListingText.{refused_line}
use Rattle.reading.specs.declared.Sheet.{Sheet}
use Rattle.reading.specs.declared.Refused.{Refused}
use Rattle.reading.specs.Answers.{whole}
use Rattle.marks.specs.declared.Seen.{Seen}
use Rattle.walk.specs.declared.Records.{Records}
use Rattle.walk.specs.Promises.{RasterPromise, ListingPromise}
use Rattle.writing.specs.Steps.{Put}

-- a sheet that was read from an accepted text
pub record FromText (sheet : Sheet) : Type 0 where
  pub said : Said
  pub passed : refusal (to_read said) ≡ 0
  pub read : sheet ≡ whole said

-- its records are listed, whatever the text said
abbrev pub ListsRecords : Sheet → List ℕ → Result Records Refusal → List ℕ → Type 0
ListsRecords sheet old r now = (w : Said) → refusal (to_read w) ≡ 0 → sheet ≡ whole w → ListingPromise (sheet_in w) w.mode old r now

-- or its raster painted
abbrev pub PaintsRaster : Sheet → List ℕ → Result Seen Refusal → List ℕ → Type 0
PaintsRaster sheet old r now = (w : Said) → refusal (to_read w) ≡ 0 → sheet ≡ whole w → RasterPromise (sheet_in w) w.mode old r now

-- and the text is written that is told of it
abbrev pub Tells : (Outcome → List ℕ) → Sheet → List ℕ → List ℕ → ℕ → Type 0
Tells told sheet old now r = (w : Said) → refusal (to_read w) ≡ 0 → sheet ≡ whole w → Put 0 (told (accepted w)) old now r

-- of a refused text the line of its refusal is written
abbrev pub TellsRefused : Refused → List ℕ → List ℕ → ℕ → Type 0
TellsRefused e old now r = Put 0 (refused_line (number_of e.refusal) e.line e.field) old now r
