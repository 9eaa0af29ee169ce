-- A sheet text before #105: a line was good or bad, and 10 was the refusal of a bad one, with its line. The words of page/specs/SheetText as they stood; lines, fields, numbers as they are written, terms and what a text says are those of today, which the request left as they were.
use Rattle.std.specs.Prelude.{Bool, not, ◌&&◌, cond, List, [], ◌∷◌, ℕ, ◌+◌, leb, ltb, ℤ, length}
use Rattle.page.specs.Refusals.{refusal, unless}
use Rattle.page.specs.SheetLine.{Line, lines, fields, is_written, is_within, worth, signed, unsigned, is_letter, number_at, whole_at}
use Rattle.page.specs.SheetText.{Term, term_of, is_named, Said, with_terms, to_read}

-- ---- the numbers of a line, or that it is bad
pub data TenNumbers : Type 0 where
  ten_bad : TenNumbers
  ten_good : List ℤ → TenNumbers

abbrev pub with_first : ℤ → TenNumbers → TenNumbers
with_first z ten_bad = ten_bad
with_first z (ten_good zs) = ten_good (z ∷ zs)

-- a number for each field, and a field for each number
abbrev pub ten_numbers : List Bool → List (List ℕ) → TenNumbers
ten_numbers [] [] = ten_good []
ten_numbers [] (f ∷ fs) = ten_bad
ten_numbers (n ∷ ns) [] = ten_bad
ten_numbers (n ∷ ns) (f ∷ fs) = cond (is_written f && is_within n (worth f)) (with_first (worth f) (ten_numbers ns fs)) ten_bad

-- field 1 is the line's letter
abbrev pub ten_after_letter : ℕ → List Bool → List (List ℕ) → TenNumbers
ten_after_letter letter ns [] = ten_bad
ten_after_letter letter ns (f ∷ fs) = cond (is_letter letter f) (ten_numbers ns fs) ten_bad

-- an unended line is bad
abbrev pub ten_line_numbers : ℕ → List Bool → Line → TenNumbers
ten_line_numbers letter ns l = cond l.ended (ten_after_letter letter ns (fields l.bytes)) ten_bad

-- ---- no (i,j) twice, i + j ≤ the declared d, i and j at most 8
abbrev pub is_admitted : ℕ → List Term → Term → Bool
is_admitted d ts t = leb (t.i + t.j) d && leb t.i 8 && leb t.j 8 && not (is_named t.i t.j ts)

-- ---- a text was bad at a line, counted from 1, or it was well-formed
pub data TenText : Type 0 where
  ten_bad_line : ℕ → TenText
  ten_well_formed : Said → TenText

abbrev pub ten_with_line : ℕ → TenNumbers → (List ℤ → TenText) → TenText
ten_with_line n ten_bad rest = ten_bad_line n
ten_with_line n (ten_good zs) rest = rest zs

-- where a line was missing, the text was bad there
abbrev pub ten_line_then : ℕ → ℕ → List Bool → List Line → (List ℤ → List Line → TenText) → TenText
ten_line_then n letter ns [] rest = ten_bad_line n
ten_line_then n letter ns (l ∷ ls) rest = ten_with_line n (ten_line_numbers letter ns l) (λ zs. rest zs ls)

-- `T` i j coefficient
abbrev pub ten_term_numbers : Line → TenNumbers
ten_term_numbers l = ten_line_numbers 84 (unsigned ∷ unsigned ∷ signed ∷ []) l

unfoldable pub ten_terms_from : ℕ → Said → List Line → TenText
ten_terms_from n w [] = ten_well_formed w
ten_terms_from n w (l ∷ ls) = ten_with_line n (ten_term_numbers l) (λ zs.
    cond (is_admitted w.d w.terms (term_of zs)) (ten_terms_from (n + 1) (with_terms w (term_of zs ∷ w.terms)) ls) (ten_bad_line n))

unfoldable pub ten_text_of : List Line → TenText
ten_text_of ls =
    ten_line_then 1 68 (unsigned ∷ []) ls (λ d ls.
    ten_line_then 2 66 (signed ∷ signed ∷ unsigned ∷ []) ls (λ b ls.
    ten_line_then 3 75 (unsigned ∷ []) ls (λ k ls.
    ten_line_then 4 77 (unsigned ∷ []) ls (λ m ls.
    ten_terms_from 5 (record { d = whole_at d 0; X = number_at b 0; Y = number_at b 1; s = whole_at b 2; k = whole_at k 0; mode = whole_at m 0; terms = [] }) ls))))

-- ---- what reading a text came to: a refusal with its number and its line, 0 where no line was meant; 11 and 10 before the rest
pub data TenOutcome : Type 0 where
  ten_refused : ℕ → ℕ → TenOutcome
  ten_accepted : Said → TenOutcome

abbrev pub ten_outcome_of : TenText → TenOutcome
ten_outcome_of (ten_bad_line n) = ten_refused 10 n
ten_outcome_of (ten_well_formed w) = unless (refusal (to_read w)) (λ n. ten_refused n 0) (ten_accepted w)

unfoldable pub ten_outcome : List ℕ → TenOutcome
ten_outcome text = cond (ltb 8_192 (length text)) (ten_refused 11 0) (ten_outcome_of (ten_text_of (lines text)))
