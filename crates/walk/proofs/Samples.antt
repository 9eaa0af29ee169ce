-- The answers and the places at the page's numbers: P1, P13, and the records of the whole case.
use mathlib.Core.Path.{◌≡◌, refl, ◌∙◌}
use mathlib.Core.List.{List, [], ◌∷◌}
use Prim.Native.Nat.{ℕ}
use lib.IntN.{pow, one}
use Rattle.algebra.specs.Sum.{sum, sumℕ, run, span, ◌⋯◌}
use Rattle.algebra.specs.Binomial.{choose}
use Rattle.algebra.specs.MinMax.{minℤ, maxℤ, largest}
use Rattle.algebra.specs.Triangle.{row_start}
use Rattle.verdicts.specs.Judging.{judged}
use Rattle.verdicts.specs.Walking.{colour, raster, visited, coloured, largest_bend, walking_order, those, records}
use Rattle.page.specs.LocalForm.{G}
use Rattle.page.specs.Bounds.{lower, upper, bend}
use Rattle.page.specs.Weight.{weight}
use Rattle.page.specs.Refusals.{table, first}
use Rattle.page.specs.CheckedSheets.{P1, P4}
use Rattle.std.specs.Prelude.{Result, Ok, Err}
use Rattle.page.specs.declared.Refusal.{Refusal}
use Rattle.page.specs.declared.Refusal.TheVariants.{Place, Mode}
use Rattle.page.specs.Numbers.{by_number}
use Rattle.marks.specs.declared.Seen.{Seen}
use Rattle.walk.specs.declared.Records.{Records}
use Rattle.walk.specs.Answers.{tallied, rastered, states_tally, listed, recorded, states_listing}
use Rattle.walk.specs.Promises.{RasterPromise}

abbrev seen : ℕ → ℕ → ℕ → Seen
seen v c b = record { visited = v; coloured = c; bend = b }

abbrev listing : ℕ → Seen → Records
listing l s = record { length = l; seen = s }

answers : (tallied P4 0 3 ≡ Err Place) × (tallied P4 0 4 ≡ Ok (seen 5 4 0)) × (tallied P1 0 4 ≡ Ok (seen 1 0 0)) × (tallied P1 1 4 ≡ Ok (seen 5 4 32)) × (tallied P1 2 3 ≡ Err Mode)
    × (listed P4 1 3 ≡ Err Place) × (listed P4 1 9 ≡ Ok (listing 4 (seen 5 4 0))) × (listed P1 0 4 ≡ Ok (listing 1 (seen 1 0 0))) × (listed P1 1 4 ≡ Ok (listing 4 (seen 5 4 32)))
    × (states_tally (tallied P4 0 3) ≡ record { number = 7; visited = 0; coloured = 0; bend = 0 }) × (states_listing (listed P4 0 3) ≡ record { number = 7; length = 0; visited = 0; coloured = 0; bend = 0 })
unfolding pow one sum sumℕ largest run span ◌⋯◌ choose minℤ maxℤ row_start judged G lower upper bend weight colour raster visited coloured largest_bend walking_order those records table first by_number tallied listed
answers = (refl, refl, refl, refl, refl, refl, refl, refl, refl, refl, refl)

-- three bytes at k 1 stay, four are written, and of five the fifth stays; P1 is white all over; four records, and one
places : (rastered P4 0 (9 ∷ 8 ∷ 7 ∷ []) ≡ 9 ∷ 8 ∷ 7 ∷ []) × (rastered P4 0 (9 ∷ 8 ∷ 7 ∷ 6 ∷ []) ≡ 1 ∷ 1 ∷ 1 ∷ 1 ∷ []) × (rastered P4 0 (9 ∷ 8 ∷ 7 ∷ 6 ∷ 5 ∷ []) ≡ 1 ∷ 1 ∷ 1 ∷ 1 ∷ 5 ∷ [])
    × (rastered P1 0 (9 ∷ 9 ∷ 9 ∷ 9 ∷ []) ≡ 2 ∷ 2 ∷ 2 ∷ 2 ∷ [])
    × (recorded P4 0 (9 ∷ 8 ∷ 7 ∷ []) ≡ 9 ∷ 8 ∷ 7 ∷ []) × (recorded P4 0 (9 ∷ 8 ∷ 7 ∷ 6 ∷ 5 ∷ []) ≡ 65_537 ∷ 65_541 ∷ 66_049 ∷ 66_053 ∷ 5 ∷ []) × (recorded P1 0 (9 ∷ 8 ∷ 7 ∷ 6 ∷ []) ≡ 2 ∷ 8 ∷ 7 ∷ 6 ∷ [])
unfolding pow one sum sumℕ run span ◌⋯◌ choose minℤ maxℤ row_start judged G lower upper weight colour raster visited coloured walking_order those records table first by_number rastered recorded
places = (refl, refl, refl, refl, refl, refl, refl)

-- on P1 one outcome keeps the promise of `raster`: refusing everything, doing nothing and colouring every cell each break it there
on_P1 : (r : Result Seen Refusal) (now : List ℕ) → RasterPromise P1 0 (9 ∷ 9 ∷ 9 ∷ 9 ∷ []) r now → (r ≡ Ok (seen 1 0 0)) × (now ≡ 2 ∷ 2 ∷ 2 ∷ 2 ∷ [])
on_P1 r now h = (h.0 ∙ answers.2, h.2 ∙ places.3)
