-- Texts and what `read` answers, computed: the page's whole case, and three that are refused.
use mathlib.Core.Path.{◌≡◌, refl}
use mathlib.Core.List.{[], ◌∷◌, flat_map}
use lib.IntN.{pos, negsuc}
use lib.ListN.{replicate}
use Rattle.algebra.specs.Sum.{sumℕ, run, span, ◌⋯◌}
use Rattle.algebra.specs.Triangle.{row_start}
use Rattle.page.specs.Weight.{weight}
use Rattle.page.specs.Refusals.{table, first}
use Rattle.page.specs.SheetLine.{lines, fields, all_digits, amount, line_numbers}
use Rattle.page.specs.SheetText.{term_numbers, terms_from, text_of, in_order, outcome}
use Rattle.page.proofs.TextSamples.{whole_in}
use Rattle.std.specs.Prelude.{Ok, Err}
use Rattle.page.specs.declared.Refusal.TheVariants.{Degree, Letter, Written}
use Rattle.page.specs.Numbers.{by_number}
use Rattle.reading.specs.Answers.{reading, states, stated}

answers :
    (reading whole_in ≡ Ok (record { d = 1; x = pos 0; y = pos 0; s = 0; k = 1; mode = 0; coefficients = pos 0 ∷ negsuc 0 ∷ pos 1 ∷ replicate 42 (pos 0) }))
    × (reading [] ≡ Err (record { refusal = Letter; line = 1; field = 0 }))
    -- `D` 1; `B` 0 x 5: the third field of the second line
    × (reading (68 ∷ 9 ∷ 49 ∷ 10 ∷ 66 ∷ 9 ∷ 48 ∷ 9 ∷ 120 ∷ 9 ∷ 53 ∷ 10 ∷ []) ≡ Err (record { refusal = Written; line = 2; field = 3 }))
    × (reading (68 ∷ 9 ∷ 57 ∷ 10 ∷ 66 ∷ 9 ∷ 51 ∷ 9 ∷ 52 ∷ 9 ∷ 53 ∷ 10 ∷ 75 ∷ 9 ∷ 54 ∷ 10 ∷ 77 ∷ 9 ∷ 49 ∷ 10 ∷ []) ≡ Err (record { refusal = Degree; line = 0; field = 0 }))
unfolding sumℕ run span ◌⋯◌ row_start weight table first lines fields all_digits amount line_numbers term_numbers terms_from text_of in_order flat_map outcome by_number reading
answers = (refl, refl, refl, refl)

-- the numbers that they state: a refusal has zeros for all but its own, the line and the field
numbers_stated :
    (stated whole_in
    ≡ record { refusal = 0; line = 0; field = 0; d = 1; x = pos 0; y = pos 0; s = 0; k = 1; mode = 0; coefficients = pos 0 ∷ negsuc 0 ∷ pos 1 ∷ replicate 42 (pos 0) })
    × (stated [] ≡ record { refusal = 14; line = 1; field = 0; d = 0; x = pos 0; y = pos 0; s = 0; k = 0; mode = 0; coefficients = replicate 45 (pos 0) })
unfolding sumℕ run span ◌⋯◌ row_start weight table first lines fields all_digits amount line_numbers term_numbers terms_from text_of in_order flat_map outcome stated
numbers_stated = (refl, refl)

-- and so does the answer itself state them
refusal_stated : states (reading []) ≡ record { refusal = 14; line = 1; field = 0; d = 0; x = pos 0; y = pos 0; s = 0; k = 0; mode = 0; coefficients = replicate 45 (pos 0) }
unfolding sumℕ run span ◌⋯◌ row_start weight table first lines fields all_digits amount line_numbers term_numbers terms_from text_of in_order flat_map outcome by_number reading
refusal_stated = refl
