-- Texts read and written by the definitions, computed: the page's whole case, and what is good and what is bad in a line.
use mathlib.Core.Path.{◌≡◌, refl}
use mathlib.Core.List.{List, [], ◌∷◌, flat_map}
use Prim.Native.Nat.{ℕ}
use lib.IntN.{ℤ, pos, negsuc, pow, one}
use lib.ListN.{replicate}
use Rattle.algebra.specs.Sum.{sum, sumℕ, run, span, ◌⋯◌}
use Rattle.algebra.specs.Binomial.{choose}
use Rattle.algebra.specs.MinMax.{minℤ, maxℤ}
use Rattle.algebra.specs.Triangle.{row_start}
use Rattle.verdicts.specs.Judging.{judged}
use Rattle.verdicts.specs.Walking.{those, walking_order, colour, visited, coloured}
use Rattle.page.specs.Sheet.{A}
use Rattle.page.specs.LocalForm.{G}
use Rattle.page.specs.Bounds.{lower, upper}
use Rattle.page.specs.Weight.{weight}
use Rattle.page.specs.Refusals.{table, first}
use Rattle.page.specs.SheetLine.{ended_line, lines, fields, all_digits, amount, signed, unsigned, fault, Numbers, faulty, good, line_numbers}
use Rattle.page.specs.SheetText.{Term, Said, term_numbers, terms_from, text_of, in_order, sheet_in, refused, accepted, outcome}
use Rattle.page.specs.ListingText.{digits_within, decimal, record_line, total_line, listing_text, written_text}

-- ---- the whole case
abbrev pub whole_in : List ℕ
whole_in =
    68 ∷ 9 ∷ 49 ∷ 10 ∷ 66 ∷ 9 ∷ 48 ∷ 9 ∷ 48 ∷ 9 ∷ 48 ∷ 10 ∷ 75 ∷ 9 ∷ 49 ∷ 10 ∷ 77 ∷ 9 ∷ 48 ∷ 10 ∷ 84 ∷ 9 ∷ 48 ∷ 9 ∷ 49 ∷ 9 ∷ 45 ∷ 49 ∷ 10 ∷ 84 ∷ 9 ∷ 49 ∷ 9 ∷ 48 ∷ 9 ∷ 49 ∷ 10 ∷ []

abbrev whole_out : List ℕ
whole_out =
    49 ∷ 9 ∷ 48 ∷ 9 ∷ 48 ∷ 9 ∷ 48 ∷ 10 ∷ 49 ∷ 9 ∷ 49 ∷ 9 ∷ 48 ∷ 9 ∷ 48 ∷ 10 ∷ 49 ∷ 9 ∷ 48 ∷ 9 ∷ 49 ∷ 9 ∷ 48 ∷ 10 ∷ 49 ∷ 9 ∷ 49 ∷ 9 ∷ 49 ∷ 9 ∷ 48 ∷ 10 ∷ 116 ∷ 111 ∷ 116 ∷ 97 ∷ 108 ∷ 9 ∷ 53 ∷ 9 ∷ 52 ∷ 10 ∷ []

whole_case : written_text whole_in ≡ whole_out
unfolding pow one sum sumℕ run span ◌⋯◌ choose minℤ maxℤ row_start judged G lower upper those walking_order colour visited coloured weight table first lines fields all_digits amount line_numbers term_numbers terms_from text_of in_order flat_map outcome digits_within decimal record_line total_line listing_text written_text
whole_case = refl

-- ---- a text of degree 2 that names all six terms, in no order, each with a coefficient of its own
abbrev six_in : List ℕ
six_in =
    68 ∷ 9 ∷ 50 ∷ 10 ∷ 66 ∷ 9 ∷ 48 ∷ 9 ∷ 48 ∷ 9 ∷ 48 ∷ 10 ∷ 75 ∷ 9 ∷ 48 ∷ 10 ∷ 77 ∷ 9 ∷ 48 ∷ 10 ∷ 84 ∷ 9 ∷ 50 ∷ 9 ∷ 48 ∷ 9 ∷ 54 ∷ 10 ∷ 84 ∷ 9 ∷ 48 ∷ 9 ∷ 49 ∷ 9 ∷ 50 ∷ 10
    ∷ 84 ∷ 9 ∷ 49 ∷ 9 ∷ 49 ∷ 9 ∷ 45 ∷ 53 ∷ 10 ∷ 84 ∷ 9 ∷ 48 ∷ 9 ∷ 48 ∷ 9 ∷ 49 ∷ 10 ∷ 84 ∷ 9 ∷ 49 ∷ 9 ∷ 48 ∷ 9 ∷ 52 ∷ 10 ∷ 84 ∷ 9 ∷ 48 ∷ 9 ∷ 50 ∷ 9 ∷ 51 ∷ 10 ∷ []

abbrev term : ℕ → ℕ → ℤ → Term
term i j c = record { i = i; j = j; coefficient = c }

abbrev six : Said
six = record { d = 2; X = pos 0; Y = pos 0; s = 0; k = 0; mode = 0; terms = term 0 2 (pos 3) ∷ term 1 0 (pos 4) ∷ term 0 0 (pos 1) ∷ term 1 1 (negsuc 4) ∷ term 0 1 (pos 2) ∷ term 2 0 (pos 6) ∷ [] }

six_terms :
    (outcome six_in ≡ accepted six)
    × ((sheet_in six).coefficients ≡ pos 1 ∷ pos 2 ∷ pos 3 ∷ pos 4 ∷ negsuc 4 ∷ pos 6 ∷ [])
    × (A (sheet_in six) 0 2 ≡ pos 3) × (A (sheet_in six) 1 0 ≡ pos 4) × (A (sheet_in six) 1 1 ≡ negsuc 4) × (A (sheet_in six) 2 0 ≡ pos 6)
unfolding sumℕ run span ◌⋯◌ row_start weight table first lines fields all_digits amount line_numbers term_numbers terms_from text_of in_order flat_map outcome
six_terms = (refl, refl, refl, refl, refl, refl)

-- ---- the marks: level 7, p 127, q 5, coloured, above and below
marks :
    (record_line 1 7 127 5 ≡ 55 ∷ 9 ∷ 49 ∷ 50 ∷ 55 ∷ 9 ∷ 53 ∷ 9 ∷ 48 ∷ 10 ∷ [])
    × (record_line 2 7 127 5 ≡ 55 ∷ 9 ∷ 49 ∷ 50 ∷ 55 ∷ 9 ∷ 53 ∷ 9 ∷ 43 ∷ 10 ∷ [])
    × (record_line 3 7 127 5 ≡ 55 ∷ 9 ∷ 49 ∷ 50 ∷ 55 ∷ 9 ∷ 53 ∷ 9 ∷ 45 ∷ 10 ∷ [])
unfolding digits_within decimal record_line
marks = (refl, refl, refl)

-- ---- 11 before 14: empty lines, 8,192 of them and one more
lengths : (outcome (replicate 8_192 10) ≡ refused 14 1 1) × (outcome (replicate 8_193 10) ≡ refused 11 0 0)
unfolding lines fields line_numbers text_of outcome
lengths = (refl, refl)

-- ---- refusals with their lines and fields
refusals :
    (outcome ([]) ≡ refused 14 1 0)
    × (outcome (68 ∷ 9 ∷ 49 ∷ []) ≡ refused 20 1 0)
    × (outcome (68 ∷ 9 ∷ 49 ∷ 10 ∷ []) ≡ refused 14 2 0)
    × (outcome (68 ∷ 9 ∷ 49 ∷ 10 ∷ 75 ∷ 9 ∷ 49 ∷ 10 ∷ 66 ∷ 9 ∷ 48 ∷ 9 ∷ 48 ∷ 9 ∷ 48 ∷ 10 ∷ []) ≡ refused 14 2 1)
    × (outcome (68 ∷ 9 ∷ 49 ∷ 10 ∷ 66 ∷ 9 ∷ 48 ∷ 9 ∷ 48 ∷ 9 ∷ 48 ∷ 10 ∷ 75 ∷ 9 ∷ 49 ∷ 10 ∷ 77 ∷ 9 ∷ 48 ∷ 10 ∷ 84 ∷ 9 ∷ 48 ∷ 9 ∷ 49 ∷ 9 ∷ 53 ∷ 10 ∷ 84 ∷ 9 ∷ 48 ∷ 9 ∷ 49 ∷ 9 ∷ 53 ∷ 10 ∷ []) ≡ refused 19 6 2)
    × (outcome (68 ∷ 9 ∷ 49 ∷ 10 ∷ 66 ∷ 9 ∷ 48 ∷ 9 ∷ 48 ∷ 9 ∷ 48 ∷ 10 ∷ 75 ∷ 9 ∷ 49 ∷ 10 ∷ 77 ∷ 9 ∷ 48 ∷ 10 ∷ 84 ∷ 9 ∷ 49 ∷ 9 ∷ 49 ∷ 9 ∷ 53 ∷ 10 ∷ []) ≡ refused 18 5 2)
    × (outcome (68 ∷ 9 ∷ 57 ∷ 10 ∷ 66 ∷ 9 ∷ 48 ∷ 9 ∷ 48 ∷ 9 ∷ 48 ∷ 10 ∷ 75 ∷ 9 ∷ 49 ∷ 10 ∷ 77 ∷ 9 ∷ 48 ∷ 10 ∷ 84 ∷ 9 ∷ 57 ∷ 9 ∷ 48 ∷ 9 ∷ 53 ∷ 10 ∷ []) ≡ refused 18 5 2)
    × (outcome (68 ∷ 9 ∷ 57 ∷ 10 ∷ 66 ∷ 9 ∷ 48 ∷ 9 ∷ 48 ∷ 9 ∷ 48 ∷ 10 ∷ 75 ∷ 9 ∷ 49 ∷ 10 ∷ 77 ∷ 9 ∷ 48 ∷ 10 ∷ 84 ∷ 9 ∷ 56 ∷ 9 ∷ 49 ∷ 9 ∷ 53 ∷ 10 ∷ []) ≡ refused 1 0 0)
    × (outcome (68 ∷ 9 ∷ 50 ∷ 49 ∷ 52 ∷ 55 ∷ 52 ∷ 56 ∷ 51 ∷ 54 ∷ 52 ∷ 55 ∷ 10 ∷ 66 ∷ 9 ∷ 48 ∷ 9 ∷ 48 ∷ 9 ∷ 48 ∷ 10 ∷ 75 ∷ 9 ∷ 49 ∷ 10 ∷ 77 ∷ 9 ∷ 48 ∷ 10 ∷ 84 ∷ 9 ∷ 56 ∷ 9 ∷ 56 ∷ 9 ∷ 53 ∷ 10 ∷ []) ≡ refused 1 0 0)
    × (outcome (68 ∷ 9 ∷ 50 ∷ 49 ∷ 52 ∷ 55 ∷ 52 ∷ 56 ∷ 51 ∷ 54 ∷ 52 ∷ 56 ∷ 10 ∷ 66 ∷ 9 ∷ 48 ∷ 9 ∷ 48 ∷ 9 ∷ 48 ∷ 10 ∷ 75 ∷ 9 ∷ 49 ∷ 10 ∷ 77 ∷ 9 ∷ 48 ∷ 10 ∷ []) ≡ refused 17 1 2)
    × (outcome (68 ∷ 9 ∷ 49 ∷ 10 ∷ 66 ∷ 9 ∷ 48 ∷ 9 ∷ 48 ∷ 9 ∷ 48 ∷ 10 ∷ 75 ∷ 9 ∷ 49 ∷ 10 ∷ 77 ∷ 9 ∷ 48 ∷ 10 ∷ 10 ∷ []) ≡ refused 14 5 1)
    × (outcome (68 ∷ 9 ∷ 49 ∷ 10 ∷ 66 ∷ 9 ∷ 48 ∷ 9 ∷ 48 ∷ 9 ∷ 48 ∷ 10 ∷ 75 ∷ 9 ∷ 56 ∷ 10 ∷ 77 ∷ 9 ∷ 50 ∷ 10 ∷ []) ≡ refused 3 0 0)
    × (outcome (68 ∷ 9 ∷ 49 ∷ 10 ∷ 66 ∷ 9 ∷ 48 ∷ 9 ∷ 45 ∷ 49 ∷ 48 ∷ 52 ∷ 56 ∷ 53 ∷ 55 ∷ 55 ∷ 9 ∷ 48 ∷ 10 ∷ 75 ∷ 9 ∷ 55 ∷ 10 ∷ 77 ∷ 9 ∷ 50 ∷ 10 ∷ []) ≡ refused 4 0 0)
    × (outcome (68 ∷ 9 ∷ 49 ∷ 10 ∷ 66 ∷ 9 ∷ 48 ∷ 9 ∷ 48 ∷ 9 ∷ 49 ∷ 49 ∷ 10 ∷ 75 ∷ 9 ∷ 55 ∷ 10 ∷ 77 ∷ 9 ∷ 50 ∷ 10 ∷ []) ≡ refused 4 0 0)
    × (outcome (68 ∷ 9 ∷ 49 ∷ 10 ∷ 66 ∷ 9 ∷ 48 ∷ 9 ∷ 48 ∷ 9 ∷ 48 ∷ 10 ∷ 75 ∷ 9 ∷ 55 ∷ 10 ∷ 77 ∷ 9 ∷ 50 ∷ 10 ∷ []) ≡ refused 5 0 0)
    × (outcome (68 ∷ 9 ∷ 56 ∷ 10 ∷ 66 ∷ 9 ∷ 48 ∷ 9 ∷ 48 ∷ 9 ∷ 48 ∷ 10 ∷ 75 ∷ 9 ∷ 55 ∷ 10 ∷ 77 ∷ 9 ∷ 49 ∷ 10 ∷ 84 ∷ 9 ∷ 48 ∷ 9 ∷ 48 ∷ 9 ∷ 49 ∷ 10 ∷ []) ≡ refused 6 0 0)
unfolding sumℕ run span ◌⋯◌ row_start weight table first lines fields all_digits amount line_numbers term_numbers terms_from text_of in_order flat_map outcome
refusals = (refl, refl, refl, refl, refl, refl, refl, refl, refl, refl, refl, refl, refl, refl, refl, refl)

-- ---- a number that may be negative, field 2 of its line: good ones and bad ones
abbrev number_read : List ℕ → Numbers
number_read f = line_numbers 66 (signed ∷ []) (ended_line (66 ∷ 9 ∷ f))

numbers_good :
    (number_read (48 ∷ []) ≡ good (pos 0 ∷ []))
    × (number_read (45 ∷ 49 ∷ []) ≡ good (negsuc 0 ∷ []))
    × (number_read (50 ∷ 49 ∷ 52 ∷ 55 ∷ 52 ∷ 56 ∷ 51 ∷ 54 ∷ 52 ∷ 55 ∷ []) ≡ good (pos 2_147_483_647 ∷ []))
    × (number_read (45 ∷ 50 ∷ 49 ∷ 52 ∷ 55 ∷ 52 ∷ 56 ∷ 51 ∷ 54 ∷ 52 ∷ 56 ∷ []) ≡ good (negsuc 2_147_483_647 ∷ []))
    × (number_read (49 ∷ 48 ∷ []) ≡ good (pos 10 ∷ []))
unfolding fields all_digits amount line_numbers
numbers_good = (refl, refl, refl, refl, refl)

numbers_bad :
    (number_read (48 ∷ 48 ∷ []) ≡ faulty (fault 16 2))
    × (number_read (45 ∷ 48 ∷ []) ≡ faulty (fault 16 2))
    × (number_read (45 ∷ 48 ∷ 49 ∷ []) ≡ faulty (fault 16 2))
    × (number_read (48 ∷ 49 ∷ []) ≡ faulty (fault 16 2))
    × (number_read (45 ∷ []) ≡ faulty (fault 16 2))
    × (number_read (43 ∷ 49 ∷ []) ≡ faulty (fault 16 2))
    × (number_read ([]) ≡ faulty (fault 16 2))
    × (number_read (32 ∷ 49 ∷ []) ≡ faulty (fault 16 2))
    × (number_read (49 ∷ 13 ∷ []) ≡ faulty (fault 16 2))
    × (number_read (49 ∷ 97 ∷ []) ≡ faulty (fault 16 2))
    × (number_read (45 ∷ 50 ∷ 49 ∷ 52 ∷ 55 ∷ 52 ∷ 56 ∷ 51 ∷ 54 ∷ 52 ∷ 57 ∷ []) ≡ faulty (fault 17 2))
    × (number_read (50 ∷ 49 ∷ 52 ∷ 55 ∷ 52 ∷ 56 ∷ 51 ∷ 54 ∷ 52 ∷ 56 ∷ []) ≡ faulty (fault 17 2))
    × (number_read (178 ∷ []) ≡ faulty (fault 16 2))
unfolding fields all_digits amount line_numbers
numbers_bad = (refl, refl, refl, refl, refl, refl, refl, refl, refl, refl, refl, refl, refl)

-- where it may not be negative; a number too many, and one too few
numbers_counted :
    (line_numbers 75 (unsigned ∷ []) (ended_line (75 ∷ 9 ∷ 45 ∷ 49 ∷ [])) ≡ faulty (fault 17 2))
    × (line_numbers 75 (unsigned ∷ []) (ended_line (75 ∷ 9 ∷ 49 ∷ 9 ∷ 49 ∷ [])) ≡ faulty (fault 15 0))
    × (line_numbers 75 (unsigned ∷ []) (ended_line (75 ∷ [])) ≡ faulty (fault 15 0))
unfolding fields all_digits amount line_numbers
numbers_counted = (refl, refl, refl)

-- ---- where j may be no 9, where no number may be negative, a term twice though it is 0, and one twice with another between
edges :
    (outcome (68 ∷ 9 ∷ 57 ∷ 10 ∷ 66 ∷ 9 ∷ 48 ∷ 9 ∷ 48 ∷ 9 ∷ 48 ∷ 10 ∷ 75 ∷ 9 ∷ 49 ∷ 10 ∷ 77 ∷ 9 ∷ 48 ∷ 10 ∷ 84 ∷ 9 ∷ 48 ∷ 9 ∷ 57 ∷ 9 ∷ 53 ∷ 10 ∷ []) ≡ refused 18 5 2)
    × (outcome (68 ∷ 9 ∷ 45 ∷ 49 ∷ 10 ∷ []) ≡ refused 17 1 2)
    × (outcome (68 ∷ 9 ∷ 49 ∷ 10 ∷ 66 ∷ 9 ∷ 48 ∷ 9 ∷ 48 ∷ 9 ∷ 45 ∷ 49 ∷ 10 ∷ []) ≡ refused 17 2 4)
    × (outcome (68 ∷ 9 ∷ 49 ∷ 10 ∷ 66 ∷ 9 ∷ 48 ∷ 9 ∷ 48 ∷ 9 ∷ 48 ∷ 10 ∷ 75 ∷ 9 ∷ 45 ∷ 49 ∷ 10 ∷ []) ≡ refused 17 3 2)
    × (outcome (68 ∷ 9 ∷ 49 ∷ 10 ∷ 66 ∷ 9 ∷ 48 ∷ 9 ∷ 48 ∷ 9 ∷ 48 ∷ 10 ∷ 75 ∷ 9 ∷ 49 ∷ 10 ∷ 77 ∷ 9 ∷ 45 ∷ 49 ∷ 10 ∷ []) ≡ refused 17 4 2)
    × (outcome (68 ∷ 9 ∷ 49 ∷ 10 ∷ 66 ∷ 9 ∷ 48 ∷ 9 ∷ 48 ∷ 9 ∷ 48 ∷ 10 ∷ 75 ∷ 9 ∷ 49 ∷ 10 ∷ 77 ∷ 9 ∷ 48 ∷ 10 ∷ 84 ∷ 9 ∷ 45 ∷ 49 ∷ 9 ∷ 48 ∷ 9 ∷ 53 ∷ 10 ∷ []) ≡ refused 17 5 2)
    × (outcome (68 ∷ 9 ∷ 49 ∷ 10 ∷ 66 ∷ 9 ∷ 48 ∷ 9 ∷ 48 ∷ 9 ∷ 48 ∷ 10 ∷ 75 ∷ 9 ∷ 49 ∷ 10 ∷ 77 ∷ 9 ∷ 48 ∷ 10 ∷ 84 ∷ 9 ∷ 48 ∷ 9 ∷ 45 ∷ 49 ∷ 9 ∷ 53 ∷ 10 ∷ []) ≡ refused 17 5 3)
    × (outcome (68 ∷ 9 ∷ 49 ∷ 10 ∷ 66 ∷ 9 ∷ 48 ∷ 9 ∷ 48 ∷ 9 ∷ 48 ∷ 10 ∷ 75 ∷ 9 ∷ 49 ∷ 10 ∷ 77 ∷ 9 ∷ 48 ∷ 10 ∷ 84 ∷ 9 ∷ 48 ∷ 9 ∷ 48 ∷ 9 ∷ 48 ∷ 10 ∷ 84 ∷ 9 ∷ 48 ∷ 9 ∷ 48 ∷ 9 ∷ 48 ∷ 10 ∷ []) ≡ refused 19 6 2)
    × (outcome (68 ∷ 9 ∷ 49 ∷ 10 ∷ 66 ∷ 9 ∷ 48 ∷ 9 ∷ 48 ∷ 9 ∷ 48 ∷ 10 ∷ 75 ∷ 9 ∷ 49 ∷ 10 ∷ 77 ∷ 9 ∷ 48 ∷ 10 ∷ 84 ∷ 9 ∷ 48 ∷ 9 ∷ 48 ∷ 9 ∷ 49 ∷ 10 ∷ 84 ∷ 9 ∷ 48 ∷ 9 ∷ 49 ∷ 9 ∷ 49 ∷ 10 ∷ 84 ∷ 9 ∷ 48 ∷ 9 ∷ 48 ∷ 9 ∷ 50 ∷ 10 ∷ []) ≡ refused 19 7 2)
unfolding sumℕ run span ◌⋯◌ row_start weight table first lines fields all_digits amount line_numbers term_numbers terms_from text_of in_order flat_map outcome
edges = (refl, refl, refl, refl, refl, refl, refl, refl, refl)
