-- A text before #105 at bytes: what was good, and what 10 refused.
use mathlib.Core.Path.{◌≡◌, refl}
use mathlib.Core.List.{[], ◌∷◌, ◌++◌, flat_map}
use lib.IntN.{pos, negsuc}
use lib.ListN.{replicate}
use Rattle.algebra.specs.Sum.{sumℕ, run, span, ◌⋯◌}
use Rattle.algebra.specs.Triangle.{row_start}
use Rattle.page.specs.Weight.{weight}
use Rattle.page.specs.Refusals.{table, first}
use Rattle.page.specs.SheetLine.{lines, fields, all_digits, amount}
use Rattle.page.specs.SheetText.{Said, in_order, refused}
use Rattle.page.proofs.TextSamples.{whole_in}
use Rattle.earlier.specs.BadLine.{ten_terms_from, ten_text_of, ten_refused, ten_accepted, ten_outcome}
use Rattle.earlier.specs.BadLineStays.{as_ten}

-- what the page's whole case says
abbrev whole : Said
whole = record { d = 1; X = pos 0; Y = pos 0; s = 0; k = 1; mode = 0; terms = record { i = 1; j = 0; coefficient = pos 1 } ∷ record { i = 0; j = 1; coefficient = negsuc 0 } ∷ [] }

was_good : ten_outcome whole_in ≡ ten_accepted whole
unfolding sumℕ run span ◌⋯◌ row_start weight table first lines fields all_digits amount ten_terms_from ten_text_of in_order flat_map ten_outcome
was_good = refl

-- ---- 11, 10 with its line, and a row of the table
were_bad :
    -- 8,193 line ends
    (ten_outcome (replicate 8_193 10) ≡ ten_refused 11 0)
    -- no byte
    × (ten_outcome [] ≡ ten_refused 10 1)
    -- `D⇥1`, unended
    × (ten_outcome (68 ∷ 9 ∷ 49 ∷ []) ≡ ten_refused 10 1)
    -- `D⇥1⏎`: line 2 is missing
    × (ten_outcome (68 ∷ 9 ∷ 49 ∷ 10 ∷ []) ≡ ten_refused 10 2)
    -- `D⇥1⇥1⏎`: a field too many
    × (ten_outcome (68 ∷ 9 ∷ 49 ∷ 9 ∷ 49 ∷ 10 ∷ []) ≡ ten_refused 10 1)
    -- `D⏎`: a field too few
    × (ten_outcome (68 ∷ 10 ∷ []) ≡ ten_refused 10 1)
    -- after the whole case: `T⇥0⇥1⇥5⏎`, given twice; `T⇥1⇥1⇥5⏎`, beyond the degree; `T⇥9⇥0⇥5⏎`, i above 8; `T⇥0⇥9⇥5⏎`, j above 8
    × (ten_outcome (whole_in ++ (84 ∷ 9 ∷ 48 ∷ 9 ∷ 49 ∷ 9 ∷ 53 ∷ 10 ∷ [])) ≡ ten_refused 10 7)
    × (ten_outcome (whole_in ++ (84 ∷ 9 ∷ 49 ∷ 9 ∷ 49 ∷ 9 ∷ 53 ∷ 10 ∷ [])) ≡ ten_refused 10 7)
    × (ten_outcome (whole_in ++ (84 ∷ 9 ∷ 57 ∷ 9 ∷ 48 ∷ 9 ∷ 53 ∷ 10 ∷ [])) ≡ ten_refused 10 7)
    × (ten_outcome (whole_in ++ (84 ∷ 9 ∷ 48 ∷ 9 ∷ 57 ∷ 9 ∷ 53 ∷ 10 ∷ [])) ≡ ten_refused 10 7)
    -- `D⇥9⏎B⇥0⇥0⇥0⏎K⇥0⏎M⇥0⏎T⇥8⇥1⇥5⏎`: well formed, and refused by 1
    × (ten_outcome (68 ∷ 9 ∷ 57 ∷ 10 ∷ 66 ∷ 9 ∷ 48 ∷ 9 ∷ 48 ∷ 9 ∷ 48 ∷ 10 ∷ 75 ∷ 9 ∷ 48 ∷ 10 ∷ 77 ∷ 9 ∷ 48 ∷ 10 ∷ 84 ∷ 9 ∷ 56 ∷ 9 ∷ 49 ∷ 9 ∷ 53 ∷ 10 ∷ []) ≡ ten_refused 1 0)
unfolding sumℕ run span ◌⋯◌ row_start weight table first lines fields all_digits amount ten_terms_from ten_text_of in_order flat_map ten_outcome
were_bad = (refl, refl, refl, refl, refl, refl, refl, refl, refl, refl, refl)

-- ---- 14 to 20 for 10, and every other number as it was
told_as_ten :
    (as_ten (refused 14 3 0) ≡ ten_refused 10 3) × (as_ten (refused 16 2 4) ≡ ten_refused 10 2) × (as_ten (refused 20 6 0) ≡ ten_refused 10 6)
    × (as_ten (refused 11 0 0) ≡ ten_refused 11 0) × (as_ten (refused 6 0 0) ≡ ten_refused 6 0)
told_as_ten = (refl, refl, refl, refl, refl)
