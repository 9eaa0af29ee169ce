-- The refusals by name: the number that each has in the table, the one that a number names, and a call's answer by the refusal's number.
use Rattle.std.specs.Prelude.{◌≡◌, cond, ℕ, eqb, Result, Ok, Err}
use Rattle.page.specs.declared.Refusal.{Refusal}
use Rattle.page.specs.declared.Refusal.TheVariants.{Degree, Count, Depth, Range, Mode, Weight, Place, Outside, Visited, Text, NotPlain, Sides, Letter, Fields, Written, Within, Beyond, Twice, Unended}
use Rattle.page.specs.Refusals.{Input, refusal, unless}

-- ---- the number of a refusal
abbrev pub number_of : Refusal → ℕ
number_of Degree = 1
number_of Count = 2
number_of Depth = 3
number_of Range = 4
number_of Mode = 5
number_of Weight = 6
number_of Place = 7
number_of Outside = 8
number_of Visited = 9
number_of Text = 11
number_of NotPlain = 12
number_of Sides = 13
number_of Letter = 14
number_of Fields = 15
number_of Written = 16
number_of Within = 17
number_of Beyond = 18
number_of Twice = 19
number_of Unended = 20

-- ---- the refusal that a number names; of a number that names none nothing is asked
unfoldable pub by_number : ℕ → Refusal
by_number n =
    cond (eqb n 1) Degree (cond (eqb n 2) Count (cond (eqb n 3) Depth (cond (eqb n 4) Range (cond (eqb n 5) Mode (cond (eqb n 6) Weight (cond (eqb n 7) Place (cond (eqb n 8) Outside
    (cond (eqb n 9) Visited (cond (eqb n 11) Text (cond (eqb n 12) NotPlain (cond (eqb n 13) Sides (cond (eqb n 14) Letter (cond (eqb n 15) Fields (cond (eqb n 16) Written
    (cond (eqb n 17) Within (cond (eqb n 18) Beyond (cond (eqb n 19) Twice Unended)))))))))))))))))

-- ---- an answer, by the refusal's number n: the values where it is 0, and else the refusal that n names
abbrev pub answer : {X : Type 0} → ℕ → X → Result X Refusal
answer n values = unless n (λ n. Err (by_number n)) (Ok values)

-- where no values are asked for
abbrev pub passed : ℕ → Result Unit Refusal
passed n = answer n tt

-- ---- a refusal is the one that its number names
abbrev pub NamedByNumber : Type 0
NamedByNumber = (r : Refusal) → by_number (number_of r) ≡ r

-- and every number that the table gives names a refusal with that number
abbrev pub TableNamed : Type 0
TableNamed = (c : Input) → (refusal c ≡ 0 → ⊥) → number_of (by_number (refusal c)) ≡ refusal c
