-- The old definitions at numbers; and the request's sheet, before and after.
use mathlib.Core.Path.{◌≡◌, refl}
use mathlib.Core.List.{List, [], ◌∷◌, ◌++◌, flat_map}
use Prim.Native.Nat.{ℕ, ◌*◌, ◌^◌}
use native.Mathlib.Omega.{arith}
use lib.IntN.{pos, pow, one}
use lib.ListN.{replicate}
use Rattle.algebra.specs.Sum.{sum, sumℕ, run, span, ◌⋯◌}
use Rattle.algebra.specs.Binomial.{choose}
use Rattle.algebra.specs.MinMax.{minℤ, maxℤ, largest}
use Rattle.algebra.specs.Triangle.{row_start}
use Rattle.algebra.specs.Digits.{digits}
use Rattle.verdicts.specs.Judging.{judged}
use Rattle.verdicts.specs.declared.Verdict.TheVariants.{Open}
use Rattle.verdicts.specs.Walking.{colour, raster, visited, coloured, largest_bend, those, walking_order, records}
use Rattle.page.specs.Sheet.{Sheet, sheet_of}
use Rattle.page.specs.Scaled.{F}
use Rattle.page.specs.LocalForm.{G}
use Rattle.page.specs.Bounds.{lower, upper, bend}
use Rattle.page.specs.Weight.{weight}
use Rattle.page.specs.Refusals.{table, first, to_check, to_walk}
use Rattle.page.specs.SheetLine.{lines, fields, all_digits, amount, line_numbers}
use Rattle.page.specs.SheetText.{term_numbers, terms_from, text_of, in_order, refused}
use Rattle.page.specs.ListingText.{digits_within, decimal, refused_line}
use Rattle.page.specs.CheckedSheets.{P4, P9, far_along_y}
use Rattle.std.specs.Prelude.{Ok}
use Rattle.page.specs.Numbers.{by_number}
use Rattle.probe.specs.Answers.{checked}
use Rattle.earlier.specs.Weight.{old_weight, old_refusal}
use Rattle.earlier.specs.WeightAnswers.{old_checked, old_valued, old_bounded, old_tallied, old_rastered, old_listed, old_recorded, old_outcome, old_text, old_written_length, old_written_place}
use Rattle.earlier.specs.WeightStays.{Lighter, RefusedForNothing}

-- f = xy², d 3, k 0, X 1, Y 4, s 0: the limits 2 and 5, where R was 5
abbrev xy² : Sheet
xy² = sheet_of 3 (replicate 6 (pos 0) ++ (pos 1 ∷ replicate 3 (pos 0))) (pos 1) (pos 4) 0 0

-- f = 2^30 x², d 2, k 7, X 0, s 0: with Y 255 R was 256, and the weight 2^62
abbrev at_the_limit : ℕ → Sheet
at_the_limit Y = sheet_of 2 (replicate 5 (pos 0) ++ (pos (2 ^ 30) ∷ [])) (pos 0) (pos Y) 0 7

weights : (old_weight xy² ≡ 1_000) × (old_weight (at_the_limit 255) ≡ 2 ^ 62) × (old_weight far_along_y ≡ 2 ^ 32 * 1_025 ^ 4)
unfolding sumℕ run span ◌⋯◌ row_start old_weight
weights = (refl, refl, refl)

-- the old table's rows 6 and 7, at their edges
numbers : (old_refusal (to_check (at_the_limit 254)) ≡ 0) × (old_refusal (to_check (at_the_limit 255)) ≡ 6) × (old_refusal (to_walk P4 0 3) ≡ 7) × (old_refusal (to_walk P4 0 4) ≡ 0)
unfolding pow one sum sumℕ run span ◌⋯◌ choose minℤ maxℤ row_start judged G lower upper weight old_weight visited table first
numbers = (refl, refl, refl, refl)

-- 400 and 53 spare places beside 1,000 and 52
lighter : Lighter (checked xy²) (old_checked xy²)
unfolding sumℕ run span ◌⋯◌ row_start digits weight old_weight table first checked
lighter = (omega arith, omega arith)

-- what the other calls answered
answers : (old_valued P9 (pos 2) (pos 0) ≡ Ok (pos 4)) × (old_bounded P4 0 1 1 0 ≡ Ok (Open (pos 0) (pos 4) 0)) × (old_tallied P4 0 5 ≡ Ok (record { visited = 5; coloured = 4; bend = 0 })) × (old_listed P4 0 5 ≡ Ok (record { length = 4; seen = record { visited = 5; coloured = 4; bend = 0 } }))
unfolding pow one sum sumℕ largest run span ◌⋯◌ choose minℤ maxℤ row_start judged F G lower upper bend old_weight colour visited coloured largest_bend walking_order those records table first
answers = (refl, refl, refl, refl)

places : (old_rastered P4 0 (9 ∷ 8 ∷ 7 ∷ 6 ∷ 5 ∷ []) ≡ 1 ∷ 1 ∷ 1 ∷ 1 ∷ 5 ∷ []) × (old_recorded P4 0 (9 ∷ 8 ∷ 7 ∷ 6 ∷ 5 ∷ []) ≡ 65_537 ∷ 65_541 ∷ 66_049 ∷ 66_053 ∷ 5 ∷ []) × (old_outcome [] ≡ refused 14 1 0)
unfolding pow one sum sumℕ run span ◌⋯◌ choose minℤ maxℤ row_start judged G lower upper old_weight colour raster visited walking_order those records table first lines text_of
places = (refl, refl, refl)

-- ---- the request's sheet: as a text, of which the listing by the old weight is a refusal's line of fourteen bytes; and as a sheet
abbrev far_text : List ℕ
far_text = 68 ∷ 9 ∷ 52 ∷ 10 ∷ 66 ∷ 9 ∷ 48 ∷ 9 ∷ 49 ∷ 48 ∷ 50 ∷ 52 ∷ 9 ∷ 48 ∷ 10 ∷ 75 ∷ 9 ∷ 55 ∷ 10 ∷ 77 ∷ 9 ∷ 48 ∷ 10 ∷ 84 ∷ 9 ∷ 52 ∷ 9 ∷ 48 ∷ 9 ∷ 49 ∷ 10 ∷ []

texts : (old_outcome far_text ≡ refused 6 0 0) × (old_text far_text ≡ 114 ∷ 101 ∷ 102 ∷ 117 ∷ 115 ∷ 101 ∷ 100 ∷ 9 ∷ 54 ∷ 9 ∷ 48 ∷ 9 ∷ 48 ∷ 10 ∷ []) × (old_written_length far_text 262_172 ≡ 14)
    × (old_written_place far_text (9 ∷ 8 ∷ 7 ∷ []) ≡ 9 ∷ 8 ∷ 7 ∷ [])
unfolding sumℕ run span ◌⋯◌ row_start old_weight table first lines fields all_digits amount line_numbers term_numbers terms_from text_of in_order flat_map digits_within decimal refused_line
texts = (refl, refl, refl, refl)

pub refused_for_nothing : RefusedForNothing
unfolding sumℕ run span ◌⋯◌ row_start digits weight old_weight table first checked by_number
refused_for_nothing = (refl, refl)
