-- The answers and the places at small texts, computed: a depth, and each refusal.
use mathlib.Core.Path.{◌≡◌, refl, ◌∙◌}
use mathlib.Core.List.{List, [], ◌∷◌, flat_map}
use Prim.Native.Nat.{ℕ}
use Rattle.algebra.specs.Sum.{run, span, ◌⋯◌}
use Rattle.verdicts.specs.Walking.{those}
use Rattle.page.specs.SheetLine.{amount}
use Rattle.std.proofs.Common.{Result, Ok, Err}
use Rattle.page.specs.declared.Refusal.{Refusal}
use Rattle.page.specs.declared.Refusal.TheVariants.{NotPlain, Sides, Place}
use Rattle.page.specs.Refusals.{first}
use Rattle.page.specs.Numbers.{by_number}
use Rattle.pbm.specs.Reading.{mask}
use Rattle.pbm.specs.Refusals.{plain, depths, read_table}
use Rattle.pbm.specs.Steps.{leading, beyond, after_gap, after_comment, take_bits, found}
use Rattle.pbm.proofs.Finding.{finds_found}
use Rattle.scanning.specs.Answers.{scanned, scanned_place, states_scan, sized}
use Rattle.scanning.specs.Promises.{ScanPromise}

-- `P1 2 2⏎01 11`: the top row is 0 1, the bottom row 1 1
abbrev two : List ℕ
two = 80 ∷ 49 ∷ 32 ∷ 50 ∷ 32 ∷ 50 ∷ 10 ∷ 48 ∷ 49 ∷ 32 ∷ 49 ∷ 49 ∷ []

-- `P1 3 3⏎01`: cut short, and of a side that is no power of two
abbrev short_three : List ℕ
short_three = 80 ∷ 49 ∷ 32 ∷ 51 ∷ 32 ∷ 51 ∷ 10 ∷ 48 ∷ 49 ∷ []

-- `P1 2 1⏎01`: the sizes are unequal
abbrev two_by_one : List ℕ
two_by_one = 80 ∷ 49 ∷ 32 ∷ 50 ∷ 32 ∷ 49 ∷ 10 ∷ 48 ∷ 49 ∷ []

-- `P1 1 1⏎1x`
abbrev junk : List ℕ
junk = 80 ∷ 49 ∷ 32 ∷ 49 ∷ 32 ∷ 49 ∷ 10 ∷ 49 ∷ 120 ∷ []

-- `P1 2 2⏎01#⏎11`
abbrev commented : List ℕ
commented = 80 ∷ 49 ∷ 32 ∷ 50 ∷ 32 ∷ 50 ∷ 10 ∷ 48 ∷ 49 ∷ 35 ∷ 10 ∷ 49 ∷ 49 ∷ []

-- a place of four bytes is long enough for 2 by 2, one of three is not; 12 is tried before 13, and 13 before 7
pub answers :
    (scanned (found two) 4 ≡ Ok 1)
    × (scanned (found two) 3 ≡ Err Place)
    × (scanned (found short_three) 0 ≡ Err NotPlain)
    × (scanned (found two_by_one) 0 ≡ Err Sides)
    × (scanned (found junk) 4 ≡ Err NotPlain)
    × (scanned (found commented) 4 ≡ Err NotPlain)
    × (scanned (found []) 4 ≡ Err NotPlain)
    × (scanned (plain (record { width = 128; height = 128; bits = [] })) 16_384 ≡ Ok 7)
    × (scanned (plain (record { width = 256; height = 256; bits = [] })) 65_536 ≡ Err Sides)
unfolding found leading beyond after_gap after_comment take_bits amount depths those run span ◌⋯◌ mask flat_map read_table first scanned by_number
answers = (refl, refl, refl, refl, refl, refl, refl, refl, refl)

-- the number and the depth that an answer states
pub stated :
    (states_scan (scanned (found two) 4) ≡ record { number = 0; depth = 1 })
    × (states_scan (scanned (found two) 3) ≡ record { number = 7; depth = 0 })
    × (sized (found two) 4 ≡ record { number = 0; depth = 1 })
    × (sized (found two_by_one) 0 ≡ record { number = 13; depth = 0 })
unfolding found leading beyond after_gap after_comment take_bits amount depths those run span ◌⋯◌ mask flat_map read_table first scanned sized by_number
stated = (refl, refl, refl, refl)

-- the bottom row first, and the fifth byte as it was; a refusal changes nothing
pub places :
    (scanned_place (found two) (9 ∷ 8 ∷ 7 ∷ 6 ∷ 5 ∷ []) ≡ 1 ∷ 1 ∷ 0 ∷ 1 ∷ 5 ∷ [])
    × (scanned_place (found two) (9 ∷ 8 ∷ 7 ∷ []) ≡ 9 ∷ 8 ∷ 7 ∷ [])
    × (scanned_place (found two_by_one) (9 ∷ 8 ∷ []) ≡ 9 ∷ 8 ∷ [])
    × (scanned_place (found short_three) (9 ∷ []) ≡ 9 ∷ [])
unfolding found leading beyond after_gap after_comment take_bits amount depths those run span ◌⋯◌ mask flat_map read_table first scanned_place
places = (refl, refl, refl, refl)

-- on the first text one outcome keeps the promise: refusing everything, leaving the place as it was and clearing it each break it there
pub on_two : (r : Result ℕ Refusal) (now : List ℕ) → ScanPromise two (9 ∷ 8 ∷ 7 ∷ 6 ∷ []) r now → (r ≡ Ok 1) × (now ≡ 1 ∷ 1 ∷ 0 ∷ 1 ∷ [])
unfolding found leading beyond after_gap after_comment take_bits amount depths those run span ◌⋯◌ mask flat_map read_table first scanned_place
on_two r now h = let a = h (found two) (finds_found two) in (a.0 ∙ answers.0, a.2)
