-- Request #103, the program `picture`: the text that it writes for the sheet text that it reads.
use Rattle.std.specs.Prelude.{List, ℕ}
use Rattle.verdicts.specs.Walking.{raster}
use Rattle.page.specs.Sheet.{mode_of}
use Rattle.page.specs.Bounds.{verdict}
use Rattle.page.specs.SheetText.{sheet_in, Outcome, refused, accepted, outcome}
use Rattle.page.specs.ListingText.{refused_line}
use Rattle.pbm.specs.Writing.{picture_text}

-- the PBM of its raster, or the refusal line of the listing program
abbrev pub picture_after : Outcome → List ℕ
picture_after (refused n line field) = refused_line n line field
picture_after (accepted w) = picture_text w.k (raster (verdict (sheet_in w) (mode_of w.mode)) w.k)

unfoldable pub depicted_text : List ℕ → List ℕ
depicted_text text = picture_after (outcome text)
