-- The answers and places of small pictures, computed: a raster whose bottom row is 1 2 and whose top row is 3 1, with a byte more than it needs.
use mathlib.Core.Path.{◌≡◌, refl}
use mathlib.Core.List.{List, [], ◌∷◌, flat_map}
use Prim.Native.Nat.{ℕ}
use lib.ListN.{replicate}
use Rattle.algebra.specs.Sum.{run, span}
use Rattle.page.specs.ListingText.{decimal, digits_within}
use Rattle.std.proofs.Common.{Ok, Err}
use Rattle.page.specs.declared.Refusal.TheVariants.{Depth, Place}
use Rattle.page.specs.Numbers.{by_number}
use Rattle.page.specs.Refusals.{first}
use Rattle.pbm.specs.Writing.{head_text, row_text, rows_text, picture_text, text_length}
use Rattle.pbm.specs.Refusals.{write_table}
use Rattle.printing.specs.Answers.{printed, printed_place, states_printing, counted}

abbrev raster : List ℕ
raster = 1 ∷ 2 ∷ 3 ∷ 1 ∷ 1 ∷ []

-- 13 bytes are room enough, and a byte more stays as it was
answer : (printed 1 raster 13 ≡ Ok 13) × (counted 1 raster 13 ≡ states_printing (Ok 13))
unfolding printed counted write_table first text_length picture_text head_text rows_text row_text flat_map run span decimal digits_within
answer = (refl, refl)

place : printed_place 1 raster (replicate 14 7) ≡ 80 ∷ 49 ∷ 10 ∷ 50 ∷ 32 ∷ 50 ∷ 10 ∷ 48 ∷ 49 ∷ 10 ∷ 49 ∷ 48 ∷ 10 ∷ 7 ∷ []
unfolding printed_place write_table first text_length picture_text head_text rows_text row_text flat_map run span decimal digits_within
place = refl

-- refused: depth 8, whatever the lengths; depth 7 with no bytes; a raster and a place one byte short
refusals : (printed 8 [] 0 ≡ Err Depth) × (printed 7 [] 20_000 ≡ Err Place) × (printed 1 (1 ∷ 1 ∷ 1 ∷ []) 13 ≡ Err Place) × (printed 1 raster 12 ≡ Err Place)
unfolding printed write_table first text_length decimal digits_within by_number
refusals = (refl, refl, refl, refl)

-- a refusal states its number with no count, and leaves the place
refused : (states_printing (Err Place) ≡ record { number = 7; bytes = 0 }) × (counted 1 raster 12 ≡ record { number = 7; bytes = 0 }) × (printed_place 1 raster (5 ∷ 6 ∷ []) ≡ 5 ∷ 6 ∷ [])
unfolding counted printed_place write_table first text_length decimal digits_within
refused = (refl, refl, refl)
