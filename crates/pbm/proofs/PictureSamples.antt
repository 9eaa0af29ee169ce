-- What the program `picture` writes, computed: for the page's whole case, and for a text that is refused.
use mathlib.Core.Path.{◌≡◌, refl}
use mathlib.Core.List.{[], ◌∷◌, flat_map}
use lib.IntN.{pow, one}
use Rattle.algebra.specs.Sum.{sum, sumℕ, run, span, ◌⋯◌}
use Rattle.algebra.specs.Binomial.{choose}
use Rattle.algebra.specs.MinMax.{minℤ, maxℤ}
use Rattle.algebra.specs.Triangle.{row_start}
use Rattle.verdicts.specs.Judging.{judged}
use Rattle.verdicts.specs.Walking.{colour, raster}
use Rattle.page.specs.LocalForm.{G}
use Rattle.page.specs.Bounds.{lower, upper}
use Rattle.page.specs.Weight.{weight}
use Rattle.page.specs.Refusals.{table, first}
use Rattle.page.specs.SheetLine.{lines, fields, all_digits, amount, line_numbers}
use Rattle.page.specs.SheetText.{term_numbers, terms_from, text_of, in_order, outcome}
use Rattle.page.specs.ListingText.{digits_within, decimal, refused_line}
use Rattle.page.proofs.TextSamples.{whole_in}
use Rattle.pbm.specs.Writing.{head_text, row_text, rows_text, picture_text}
use Rattle.pbm.specs.PictureText.{depicted_text}

-- `P1⏎2 2⏎11⏎11⏎`
pub whole_picture : depicted_text whole_in ≡ 80 ∷ 49 ∷ 10 ∷ 50 ∷ 32 ∷ 50 ∷ 10 ∷ 49 ∷ 49 ∷ 10 ∷ 49 ∷ 49 ∷ 10 ∷ []
unfolding pow one sum sumℕ run span ◌⋯◌ choose minℤ maxℤ row_start judged G lower upper colour raster weight table first lines fields all_digits amount line_numbers term_numbers terms_from text_of in_order flat_map outcome digits_within decimal head_text row_text rows_text picture_text depicted_text
whole_picture = refl

-- `refused⇥14⇥1⇥0⏎`: an empty text lacks line 1
pub no_picture : depicted_text [] ≡ 114 ∷ 101 ∷ 102 ∷ 117 ∷ 115 ∷ 101 ∷ 100 ∷ 9 ∷ 49 ∷ 52 ∷ 9 ∷ 49 ∷ 9 ∷ 48 ∷ 10 ∷ []
unfolding lines text_of outcome digits_within decimal refused_line depicted_text
no_picture = refl
