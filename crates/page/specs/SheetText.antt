-- Sheet text: lines of text, fields parted by one tab, each line ended by LF. What a line may be is SheetLine; this is what a text says with its lines.
use Rattle.std.specs.Prelude.{Bool, false, ◌&&◌, ◌||◌, cond, ℕ, ◌+◌, ◌-◌, ltb, eqb, ℤ, pos, length, get_or, drop}
use mathlib.Core.List.{List, [], ◌∷◌, ◌++◌, map, flat_map}
use Rattle.algebra.specs.Sum.{◌⋯◌}
use Rattle.page.specs.Sheet.{Sheet}
use Rattle.page.specs.Refusals.{Input, given, not_given, nothing, refusal, unless}
use Rattle.page.specs.SheetLine.{Line, lines, signed, unsigned, reads_well, number_fields, worths, Fault, Trial, ◌at_field◌when◌, field_faults, number_faults, line_faults, missing, Numbers, faulty, good, first_fault, line_numbers, number_at, whole_at}

-- ---- terms: `T` i j coefficient
pub record Term : Type 0 where
  pub i : ℕ
  pub j : ℕ
  pub coefficient : ℤ

abbrev pub term_of : List ℤ → Term
term_of zs = record { i = whole_at zs 0; j = whole_at zs 1; coefficient = number_at zs 2 }

abbrev pub is_term : ℕ → ℕ → Term → Bool
is_term i j t = eqb t.i i && eqb t.j j

-- some term is that of (i,j)
abbrev pub is_named : ℕ → ℕ → List Term → Bool
is_named i j [] = false
is_named i j (t ∷ ts) = is_term i j t || is_named i j ts

-- a term beyond the declared degree; an i or j above 8
abbrev pub is_beyond : ℕ → ℕ → ℕ → Bool
is_beyond d i j = ltb d (i + j) || ltb 8 i || ltb 8 j

-- a term not named is 0
abbrev pub coefficient_of : List Term → ℕ → ℕ → ℤ
coefficient_of [] i j = pos 0
coefficient_of (t ∷ ts) i j = cond (is_term i j t) t.coefficient (coefficient_of ts i j)

-- ---- what a well-formed text says
pub record Said : Type 0 where
  pub d : ℕ
  pub X : ℤ
  pub Y : ℤ
  pub s : ℕ
  pub k : ℕ
  pub mode : ℕ
  pub terms : List Term

-- a text is bad at a line, counted from 1, by that line's fault; or it is well-formed
pub data Text : Type 0 where
  bad_line : ℕ → Fault → Text
  well_formed : Said → Text

-- what follows from the n-th line's numbers; where the line has a fault, the text is bad there
abbrev pub with_line : ℕ → Numbers → (List ℤ → Text) → Text
with_line n (faulty f) rest = bad_line n f
with_line n (good zs) rest = rest zs

-- the n-th line, of this letter and these numbers, and what follows from it and from the lines after it; where it is missing, the text is bad there. The letters' bytes: `B` 66, `D` 68, `K` 75, `M` 77, `T` 84
abbrev pub line_then : ℕ → ℕ → List Bool → List Line → (List ℤ → List Line → Text) → Text
line_then n letter ns [] rest = bad_line n missing
line_then n letter ns (l ∷ ls) rest = with_line n (line_numbers letter ns l) (λ zs. rest zs ls)

-- ---- `T` i j coefficient, in a text that declared d and gave the terms ts
-- i and j both read well
abbrev pub exponents_read : Line → Bool
exponents_read l = reads_well unsigned (get_or (number_fields l) 0 []) && reads_well unsigned (get_or (number_fields l) 1 [])

-- the two term faults stand at field 2 once i and j both read well: a term beyond the declared degree, a term given twice
abbrev pub term_faults : ℕ → List Term → Line → List Trial
term_faults d ts l =
    let t = term_of (worths l) in
    (18 at_field 2 when exponents_read l && is_beyond d t.i t.j) ∷ (19 at_field 2 when exponents_read l && is_named t.i t.j ts) ∷ []

-- they are tried after the other faults of that field, and so before a fault of the coefficient
unfoldable pub term_numbers : ℕ → List Term → Line → Numbers
term_numbers d ts l =
    let fs = number_fields l in
    let between = field_faults 2 unsigned (get_or fs 0 []) ++ term_faults d ts l ++ number_faults 3 (unsigned ∷ signed ∷ []) (drop 1 fs) in
    first_fault (line_faults 84 3 between l) (worths l)

abbrev pub with_terms : Said → List Term → Said
with_terms w ts = record { d = w.d; X = w.X; Y = w.Y; s = w.s; k = w.k; mode = w.mode; terms = ts }

-- zero or more terms from the n-th line on, in any order, after those of w
unfoldable pub terms_from : ℕ → Said → List Line → Text
terms_from n w [] = well_formed w
terms_from n w (l ∷ ls) = with_line n (term_numbers w.d w.terms l) (λ zs. terms_from (n + 1) (with_terms w (term_of zs ∷ w.terms)) ls)

-- lines in order: `D` d; `B` X Y s; `K` k; `M` mode; then zero or more terms
unfoldable pub text_of : List Line → Text
text_of ls =
    line_then 1 68 (unsigned ∷ []) ls (λ d ls.
    line_then 2 66 (signed ∷ signed ∷ unsigned ∷ []) ls (λ b ls.
    line_then 3 75 (unsigned ∷ []) ls (λ k ls.
    line_then 4 77 (unsigned ∷ []) ls (λ m ls.
    terms_from 5 (record { d = whole_at d 0; X = number_at b 0; Y = number_at b 1; s = whole_at b 2; k = whole_at k 0; mode = whole_at m 0; terms = [] }) ls))))

-- ---- the sheet of a well-formed text: a coefficient for each i + j at most d, in the order i = 0..d and within it j = 0..d-i
unfoldable pub in_order : ℕ → (ℕ → ℕ → ℤ) → List ℤ
in_order d A = flat_map (λ i. map (A i) (0 ⋯ (d - i))) (0 ⋯ d)

abbrev pub sheet_in : Said → Sheet
sheet_in w = record { d = w.d; coefficients = in_order w.d (coefficient_of w.terms); X = w.X; Y = w.Y; s = w.s; k = w.k }

-- ranges of a well-formed text are judged by the table's rows 1, 3, 4, 5, 6: reading has no lent place, no cell and no point
abbrev pub to_read : Said → Input
to_read w = record { sheet = sheet_in w; mode = given w.mode; entries = not_given; question = nothing }

-- ---- what reading a text comes to: a refusal with its number, its line and its field, 0 where none is meant, or what the text says. Conditions are tried in the table's order, 11 and then 14 to 20 before the rest
pub data Outcome : Type 0 where
  refused : ℕ → ℕ → ℕ → Outcome
  accepted : Said → Outcome

abbrev pub outcome_of : Text → Outcome
outcome_of (bad_line n f) = refused f.number n f.field
outcome_of (well_formed w) = unless (refusal (to_read w)) (λ n. refused n 0 0) (accepted w)

-- text longer than 8,192 bytes
unfoldable pub outcome : List ℕ → Outcome
outcome text = cond (ltb 8_192 (length text)) (refused 11 0 0) (outcome_of (text_of (lines text)))
