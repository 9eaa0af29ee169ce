-- What is wrong with a line, computed: the order of request #105 in which a line's faults are tried, on lines of their own and in whole texts.
use mathlib.Core.Path.{◌≡◌, refl}
use mathlib.Core.Bool.{Bool, true, false}
use mathlib.Core.List.{List, [], ◌∷◌, ◌++◌}
use Prim.Native.Nat.{ℕ}
use lib.IntN.{pos, negsuc}
use Rattle.page.specs.SheetLine.{Line, lines, fields, all_digits, amount, signed, unsigned, fault, Numbers, faulty, good, line_numbers}
use Rattle.page.specs.SheetText.{Term, term_numbers, terms_from, text_of, refused, outcome}

abbrev line : Bool → List ℕ → Line
line ended bs = record { bytes = bs; ended = ended }

-- a line that should be `B` X Y s
abbrev of_B : Bool → List ℕ → Numbers
of_B ended bs = line_numbers 66 (signed ∷ signed ∷ unsigned ∷ []) (line ended bs)

-- ---- the letter before the count, the count before a number
letter_and_count :
    -- `K⇥1`: another line's letter
    (of_B true (75 ∷ 9 ∷ 49 ∷ []) ≡ faulty (fault 14 1))
    -- `BB⇥0`
    × (of_B true (66 ∷ 66 ∷ 9 ∷ 48 ∷ []) ≡ faulty (fault 14 1))
    -- no byte: an empty line
    × (of_B true ([]) ≡ faulty (fault 14 1))
    -- `⇥0⇥0⇥0`: no letter
    × (of_B true (9 ∷ 48 ∷ 9 ∷ 48 ∷ 9 ∷ 48 ∷ []) ≡ faulty (fault 14 1))
    -- `B⇥x⇥0`
    × (of_B true (66 ∷ 9 ∷ 120 ∷ 9 ∷ 48 ∷ []) ≡ faulty (fault 15 0))
    -- `B⇥x⇥0⇥0⇥0`
    × (of_B true (66 ∷ 9 ∷ 120 ∷ 9 ∷ 48 ∷ 9 ∷ 48 ∷ 9 ∷ 48 ∷ []) ≡ faulty (fault 15 0))
    -- `B⇥0⇥0⇥0⇥`: a tab too many
    × (of_B true (66 ∷ 9 ∷ 48 ∷ 9 ∷ 48 ∷ 9 ∷ 48 ∷ 9 ∷ []) ≡ faulty (fault 15 0))
unfolding fields all_digits amount line_numbers
letter_and_count = (refl, refl, refl, refl, refl, refl, refl)

-- ---- the leftmost faulty field decides, and within it 16 before 17
leftmost :
    -- `B⇥0⇥x⇥-1`: fields 3 and 4
    (of_B true (66 ∷ 9 ∷ 48 ∷ 9 ∷ 120 ∷ 9 ∷ 45 ∷ 49 ∷ []) ≡ faulty (fault 16 3))
    -- `B⇥0⇥-2147483649⇥x`: fields 3 and 4
    × (of_B true (66 ∷ 9 ∷ 48 ∷ 9 ∷ 45 ∷ 50 ∷ 49 ∷ 52 ∷ 55 ∷ 52 ∷ 56 ∷ 51 ∷ 54 ∷ 52 ∷ 57 ∷ 9 ∷ 120 ∷ []) ≡ faulty (fault 17 3))
    -- `B⇥2147483648⇥x⇥0`: fields 2 and 3
    × (of_B true (66 ∷ 9 ∷ 50 ∷ 49 ∷ 52 ∷ 55 ∷ 52 ∷ 56 ∷ 51 ∷ 54 ∷ 52 ∷ 56 ∷ 9 ∷ 120 ∷ 9 ∷ 48 ∷ []) ≡ faulty (fault 17 2))
    -- `B⇥x⇥2147483648⇥-1`: all three
    × (of_B true (66 ∷ 9 ∷ 120 ∷ 9 ∷ 50 ∷ 49 ∷ 52 ∷ 55 ∷ 52 ∷ 56 ∷ 51 ∷ 54 ∷ 52 ∷ 56 ∷ 9 ∷ 45 ∷ 49 ∷ []) ≡ faulty (fault 16 2))
    -- `B⇥02147483648⇥0⇥0`: both of one field
    × (of_B true (66 ∷ 9 ∷ 48 ∷ 50 ∷ 49 ∷ 52 ∷ 55 ∷ 52 ∷ 56 ∷ 51 ∷ 54 ∷ 52 ∷ 56 ∷ 9 ∷ 48 ∷ 9 ∷ 48 ∷ []) ≡ faulty (fault 16 2))
    -- `B⇥0⇥0⇥-01`: both of one field
    × (of_B true (66 ∷ 9 ∷ 48 ∷ 9 ∷ 48 ∷ 9 ∷ 45 ∷ 48 ∷ 49 ∷ []) ≡ faulty (fault 16 4))
    -- `B⇥⇥0⇥0`: two tabs hold an empty field
    × (of_B true (66 ∷ 9 ∷ 9 ∷ 48 ∷ 9 ∷ 48 ∷ []) ≡ faulty (fault 16 2))
    -- `B⇥0⇥⇥-1`: two tabs hold an empty field
    × (of_B true (66 ∷ 9 ∷ 48 ∷ 9 ∷ 9 ∷ 45 ∷ 49 ∷ []) ≡ faulty (fault 16 3))
    -- `B⇥0⇥0⇥-0`
    × (of_B true (66 ∷ 9 ∷ 48 ∷ 9 ∷ 48 ∷ 9 ∷ 45 ∷ 48 ∷ []) ≡ faulty (fault 16 4))
    -- `B⇥0⇥0⇥-1`: negative where it may not be
    × (of_B true (66 ∷ 9 ∷ 48 ∷ 9 ∷ 48 ∷ 9 ∷ 45 ∷ 49 ∷ []) ≡ faulty (fault 17 4))
unfolding fields all_digits amount line_numbers
leftmost = (refl, refl, refl, refl, refl, refl, refl, refl, refl, refl)

-- ---- an unended line, tried last
unended_last :
    -- `B⇥0⇥0⇥0`, unended
    (of_B false (66 ∷ 9 ∷ 48 ∷ 9 ∷ 48 ∷ 9 ∷ 48 ∷ []) ≡ faulty (fault 20 0))
    -- `B⇥0⇥0⇥-1`, unended
    × (of_B false (66 ∷ 9 ∷ 48 ∷ 9 ∷ 48 ∷ 9 ∷ 45 ∷ 49 ∷ []) ≡ faulty (fault 17 4))
    -- `B⇥0⇥0⇥x`, unended
    × (of_B false (66 ∷ 9 ∷ 48 ∷ 9 ∷ 48 ∷ 9 ∷ 120 ∷ []) ≡ faulty (fault 16 4))
    -- `B⇥0⇥0`, unended
    × (of_B false (66 ∷ 9 ∷ 48 ∷ 9 ∷ 48 ∷ []) ≡ faulty (fault 15 0))
    -- `b⇥0⇥0⇥0`, unended
    × (of_B false (98 ∷ 9 ∷ 48 ∷ 9 ∷ 48 ∷ 9 ∷ 48 ∷ []) ≡ faulty (fault 14 1))
unfolding fields all_digits amount line_numbers
unended_last = (refl, refl, refl, refl, refl)

-- a line that should be a term's, where d is declared and (1,1) and (2,1) have been given
abbrev before : List Term
before = record { i = 1; j = 1; coefficient = pos 5 } ∷ record { i = 2; j = 1; coefficient = pos 5 } ∷ []

abbrev of_T : ℕ → Bool → List ℕ → Numbers
of_T d ended bs = term_numbers d before (line ended bs)

-- ---- a term's line that is good, and the term faults
term_faulty :
    -- `T⇥0⇥2⇥-5`, d = 2
    (of_T 2 true (84 ∷ 9 ∷ 48 ∷ 9 ∷ 50 ∷ 9 ∷ 45 ∷ 53 ∷ []) ≡ good (pos 0 ∷ pos 2 ∷ negsuc 4 ∷ []))
    -- `T⇥8⇥1⇥2147483647`, d = 9
    × (of_T 9 true (84 ∷ 9 ∷ 56 ∷ 9 ∷ 49 ∷ 9 ∷ 50 ∷ 49 ∷ 52 ∷ 55 ∷ 52 ∷ 56 ∷ 51 ∷ 54 ∷ 52 ∷ 55 ∷ []) ≡ good (pos 8 ∷ pos 1 ∷ pos 2_147_483_647 ∷ []))
    -- `T⇥1⇥2⇥5`, d = 2: beyond the declared degree
    × (of_T 2 true (84 ∷ 9 ∷ 49 ∷ 9 ∷ 50 ∷ 9 ∷ 53 ∷ []) ≡ faulty (fault 18 2))
    -- `T⇥8⇥1⇥5`, d = 8: beyond the declared degree
    × (of_T 8 true (84 ∷ 9 ∷ 56 ∷ 9 ∷ 49 ∷ 9 ∷ 53 ∷ []) ≡ faulty (fault 18 2))
    -- `T⇥9⇥0⇥5`, d = 9: i above 8
    × (of_T 9 true (84 ∷ 9 ∷ 57 ∷ 9 ∷ 48 ∷ 9 ∷ 53 ∷ []) ≡ faulty (fault 18 2))
    -- `T⇥0⇥9⇥5`, d = 9: j above 8
    × (of_T 9 true (84 ∷ 9 ∷ 48 ∷ 9 ∷ 57 ∷ 9 ∷ 53 ∷ []) ≡ faulty (fault 18 2))
    -- `T⇥2147483647⇥0⇥5`, d = 9: i above 8
    × (of_T 9 true (84 ∷ 9 ∷ 50 ∷ 49 ∷ 52 ∷ 55 ∷ 52 ∷ 56 ∷ 51 ∷ 54 ∷ 52 ∷ 55 ∷ 9 ∷ 48 ∷ 9 ∷ 53 ∷ []) ≡ faulty (fault 18 2))
    -- `T⇥1⇥1⇥5`, d = 2: given twice
    × (of_T 2 true (84 ∷ 9 ∷ 49 ∷ 9 ∷ 49 ∷ 9 ∷ 53 ∷ []) ≡ faulty (fault 19 2))
    -- `T⇥2⇥1⇥5`, d = 3: given twice
    × (of_T 3 true (84 ∷ 9 ∷ 50 ∷ 9 ∷ 49 ∷ 9 ∷ 53 ∷ []) ≡ faulty (fault 19 2))
    -- `T⇥2⇥1⇥5`, d = 2: 18 before 19
    × (of_T 2 true (84 ∷ 9 ∷ 50 ∷ 9 ∷ 49 ∷ 9 ∷ 53 ∷ []) ≡ faulty (fault 18 2))
unfolding fields all_digits amount term_numbers
term_faulty = (refl, refl, refl, refl, refl, refl, refl, refl, refl, refl)

-- ---- the letter, the count, i and j before the term
before_term :
    -- `t⇥9⇥9⇥5`, d = 2
    (of_T 2 true (116 ∷ 9 ∷ 57 ∷ 9 ∷ 57 ∷ 9 ∷ 53 ∷ []) ≡ faulty (fault 14 1))
    -- `T⇥9⇥9`, d = 2
    × (of_T 2 true (84 ∷ 9 ∷ 57 ∷ 9 ∷ 57 ∷ []) ≡ faulty (fault 15 0))
    -- `T⇥1⇥1⇥5⇥`, d = 2
    × (of_T 2 true (84 ∷ 9 ∷ 49 ∷ 9 ∷ 49 ∷ 9 ∷ 53 ∷ 9 ∷ []) ≡ faulty (fault 15 0))
    -- `T⇥x⇥2147483648⇥5`, d = 2: i badly written, j out of range
    × (of_T 2 true (84 ∷ 9 ∷ 120 ∷ 9 ∷ 50 ∷ 49 ∷ 52 ∷ 55 ∷ 52 ∷ 56 ∷ 51 ∷ 54 ∷ 52 ∷ 56 ∷ 9 ∷ 53 ∷ []) ≡ faulty (fault 16 2))
    -- `T⇥2147483648⇥x⇥5`, d = 2: i out of range, j badly written
    × (of_T 2 true (84 ∷ 9 ∷ 50 ∷ 49 ∷ 52 ∷ 55 ∷ 52 ∷ 56 ∷ 51 ∷ 54 ∷ 52 ∷ 56 ∷ 9 ∷ 120 ∷ 9 ∷ 53 ∷ []) ≡ faulty (fault 17 2))
    -- `T⇥2147483648⇥0⇥5`, d = 2: i out of range: no 18
    × (of_T 2 true (84 ∷ 9 ∷ 50 ∷ 49 ∷ 52 ∷ 55 ∷ 52 ∷ 56 ∷ 51 ∷ 54 ∷ 52 ∷ 56 ∷ 9 ∷ 48 ∷ 9 ∷ 53 ∷ []) ≡ faulty (fault 17 2))
    -- `T⇥9⇥x⇥5`, d = 2: i above 8, j badly written: no 18
    × (of_T 2 true (84 ∷ 9 ∷ 57 ∷ 9 ∷ 120 ∷ 9 ∷ 53 ∷ []) ≡ faulty (fault 16 3))
    -- `T⇥9⇥-1⇥5`, d = 2: i above 8, j negative: no 18
    × (of_T 2 true (84 ∷ 9 ∷ 57 ∷ 9 ∷ 45 ∷ 49 ∷ 9 ∷ 53 ∷ []) ≡ faulty (fault 17 3))
    -- `T⇥1⇥01⇥5`, d = 2: given twice but for the zero before j: no 19
    × (of_T 2 true (84 ∷ 9 ∷ 49 ∷ 9 ∷ 48 ∷ 49 ∷ 9 ∷ 53 ∷ []) ≡ faulty (fault 16 3))
    -- `T⇥1⇥-1⇥5`, d = 2: given twice but for the sign of j: no 19
    × (of_T 2 true (84 ∷ 9 ∷ 49 ∷ 9 ∷ 45 ∷ 49 ∷ 9 ∷ 53 ∷ []) ≡ faulty (fault 17 3))
unfolding fields all_digits amount term_numbers
before_term = (refl, refl, refl, refl, refl, refl, refl, refl, refl, refl)

-- ---- the coefficient after the term, and the end last
after_term :
    -- `T⇥9⇥0⇥x`, d = 2
    (of_T 2 true (84 ∷ 9 ∷ 57 ∷ 9 ∷ 48 ∷ 9 ∷ 120 ∷ []) ≡ faulty (fault 18 2))
    -- `T⇥9⇥0⇥2147483648`, d = 2
    × (of_T 2 true (84 ∷ 9 ∷ 57 ∷ 9 ∷ 48 ∷ 9 ∷ 50 ∷ 49 ∷ 52 ∷ 55 ∷ 52 ∷ 56 ∷ 51 ∷ 54 ∷ 52 ∷ 56 ∷ []) ≡ faulty (fault 18 2))
    -- `T⇥1⇥1⇥x`, d = 2
    × (of_T 2 true (84 ∷ 9 ∷ 49 ∷ 9 ∷ 49 ∷ 9 ∷ 120 ∷ []) ≡ faulty (fault 19 2))
    -- `T⇥1⇥1⇥2147483648`, d = 2
    × (of_T 2 true (84 ∷ 9 ∷ 49 ∷ 9 ∷ 49 ∷ 9 ∷ 50 ∷ 49 ∷ 52 ∷ 55 ∷ 52 ∷ 56 ∷ 51 ∷ 54 ∷ 52 ∷ 56 ∷ []) ≡ faulty (fault 19 2))
    -- `T⇥0⇥1⇥x`, d = 2
    × (of_T 2 true (84 ∷ 9 ∷ 48 ∷ 9 ∷ 49 ∷ 9 ∷ 120 ∷ []) ≡ faulty (fault 16 4))
    -- `T⇥0⇥1⇥2147483648`, d = 2
    × (of_T 2 true (84 ∷ 9 ∷ 48 ∷ 9 ∷ 49 ∷ 9 ∷ 50 ∷ 49 ∷ 52 ∷ 55 ∷ 52 ∷ 56 ∷ 51 ∷ 54 ∷ 52 ∷ 56 ∷ []) ≡ faulty (fault 17 4))
    -- `T⇥9⇥0⇥5`, unended, d = 2
    × (of_T 2 false (84 ∷ 9 ∷ 57 ∷ 9 ∷ 48 ∷ 9 ∷ 53 ∷ []) ≡ faulty (fault 18 2))
    -- `T⇥1⇥1⇥5`, unended, d = 2
    × (of_T 2 false (84 ∷ 9 ∷ 49 ∷ 9 ∷ 49 ∷ 9 ∷ 53 ∷ []) ≡ faulty (fault 19 2))
    -- `T⇥0⇥1⇥x`, unended, d = 2
    × (of_T 2 false (84 ∷ 9 ∷ 48 ∷ 9 ∷ 49 ∷ 9 ∷ 120 ∷ []) ≡ faulty (fault 16 4))
    -- `T⇥0⇥1⇥5`, unended, d = 2
    × (of_T 2 false (84 ∷ 9 ∷ 48 ∷ 9 ∷ 49 ∷ 9 ∷ 53 ∷ []) ≡ faulty (fault 20 0))
unfolding fields all_digits amount term_numbers
after_term = (refl, refl, refl, refl, refl, refl, refl, refl, refl, refl)

-- ---- texts: the first bad line decides, and a missing line is the first after the end
texts :
    -- `⏎`: an empty line is there, and has no letter
    (outcome (10 ∷ []) ≡ refused 14 1 1)
    -- `D⇥x⏎K⏎`
    × (outcome (68 ∷ 9 ∷ 120 ∷ 10 ∷ 75 ∷ 10 ∷ []) ≡ refused 16 1 2)
    -- `D⇥1␍⏎`
    × (outcome (68 ∷ 9 ∷ 49 ∷ 13 ∷ 10 ∷ []) ≡ refused 16 1 2)
    -- `D⇥1⏎⏎`
    × (outcome (68 ∷ 9 ∷ 49 ∷ 10 ∷ 10 ∷ []) ≡ refused 14 2 1)
    -- `D⇥1⏎B⇥0⇥0⇥-1`
    × (outcome (68 ∷ 9 ∷ 49 ∷ 10 ∷ 66 ∷ 9 ∷ 48 ∷ 9 ∷ 48 ∷ 9 ∷ 45 ∷ 49 ∷ []) ≡ refused 17 2 4)
    -- `D⇥1⏎B⇥0⇥0⇥0`
    × (outcome (68 ∷ 9 ∷ 49 ∷ 10 ∷ 66 ∷ 9 ∷ 48 ∷ 9 ∷ 48 ∷ 9 ∷ 48 ∷ []) ≡ refused 20 2 0)
    -- `D⇥1⏎B⇥0⇥0⇥0⏎`
    × (outcome (68 ∷ 9 ∷ 49 ∷ 10 ∷ 66 ∷ 9 ∷ 48 ∷ 9 ∷ 48 ∷ 9 ∷ 48 ∷ 10 ∷ []) ≡ refused 14 3 0)
    -- `D⇥1⏎B⇥0⇥0⇥0⏎K⇥0⏎`
    × (outcome (68 ∷ 9 ∷ 49 ∷ 10 ∷ 66 ∷ 9 ∷ 48 ∷ 9 ∷ 48 ∷ 9 ∷ 48 ∷ 10 ∷ 75 ∷ 9 ∷ 48 ∷ 10 ∷ []) ≡ refused 14 4 0)
unfolding lines fields all_digits amount line_numbers text_of outcome
texts = (refl, refl, refl, refl, refl, refl, refl, refl)

-- `D⇥9⏎B⇥0⇥0⇥0⏎K⇥0⏎M⇥0⏎`
abbrev four : List ℕ
four = 68 ∷ 9 ∷ 57 ∷ 10 ∷ 66 ∷ 9 ∷ 48 ∷ 9 ∷ 48 ∷ 9 ∷ 48 ∷ 10 ∷ 75 ∷ 9 ∷ 48 ∷ 10 ∷ 77 ∷ 9 ∷ 48 ∷ 10 ∷ []

-- ---- texts with all of the first four lines, of a degree that row 1 refuses: 14 to 20 before 1
after_four :
    -- `D⇥1⏎` after them
    (outcome (four ++ (68 ∷ 9 ∷ 49 ∷ 10 ∷ [])) ≡ refused 14 5 1)
    -- `⏎` after them
    × (outcome (four ++ (10 ∷ [])) ≡ refused 14 5 1)
    -- `T⇥0⇥0⏎` after them
    × (outcome (four ++ (84 ∷ 9 ∷ 48 ∷ 9 ∷ 48 ∷ 10 ∷ [])) ≡ refused 15 5 0)
    -- `T⇥0⇥0⇥+1⏎` after them
    × (outcome (four ++ (84 ∷ 9 ∷ 48 ∷ 9 ∷ 48 ∷ 9 ∷ 43 ∷ 49 ∷ 10 ∷ [])) ≡ refused 16 5 4)
    -- `T⇥0⇥0⇥-2147483649⏎` after them
    × (outcome (four ++ (84 ∷ 9 ∷ 48 ∷ 9 ∷ 48 ∷ 9 ∷ 45 ∷ 50 ∷ 49 ∷ 52 ∷ 55 ∷ 52 ∷ 56 ∷ 51 ∷ 54 ∷ 52 ∷ 57 ∷ 10 ∷ [])) ≡ refused 17 5 4)
    -- `T⇥4⇥6⇥1⏎` after them
    × (outcome (four ++ (84 ∷ 9 ∷ 52 ∷ 9 ∷ 54 ∷ 9 ∷ 49 ∷ 10 ∷ [])) ≡ refused 18 5 2)
    -- `T⇥0⇥0⇥1⏎T⇥1⇥0⇥1⏎T⇥0⇥0⇥x` after them
    × (outcome (four ++ (84 ∷ 9 ∷ 48 ∷ 9 ∷ 48 ∷ 9 ∷ 49 ∷ 10 ∷ 84 ∷ 9 ∷ 49 ∷ 9 ∷ 48 ∷ 9 ∷ 49 ∷ 10 ∷ 84 ∷ 9 ∷ 48 ∷ 9 ∷ 48 ∷ 9 ∷ 120 ∷ [])) ≡ refused 19 7 2)
    -- `T⇥0⇥0⇥1⏎T⇥1⇥0⇥1` after them
    × (outcome (four ++ (84 ∷ 9 ∷ 48 ∷ 9 ∷ 48 ∷ 9 ∷ 49 ∷ 10 ∷ 84 ∷ 9 ∷ 49 ∷ 9 ∷ 48 ∷ 9 ∷ 49 ∷ [])) ≡ refused 20 6 0)
unfolding lines fields all_digits amount line_numbers term_numbers terms_from text_of outcome
after_four = (refl, refl, refl, refl, refl, refl, refl, refl)
