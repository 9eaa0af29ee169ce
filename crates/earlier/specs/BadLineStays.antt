-- Request #105, what is wrong with this line: a line without a fault is just what was a good line before, so the accepted texts and their sheets are the same as before this request. Statements about every line, every text, and every answer that satisfies the promise of `read`. That they hold is proofs/BadLineStays.
use Rattle.std.specs.Prelude.{◌≡◌, Bool, cond, List, ℕ, ◌≤◌, leb, Result}
use Rattle.page.specs.SheetLine.{Line, Numbers, faulty, good, line_numbers}
use Rattle.page.specs.SheetText.{Term, term_of, Said, Text, bad_line, well_formed, term_numbers, text_of, Outcome, refused, accepted, outcome}
use Rattle.reading.specs.declared.Sheet.{Sheet}
use Rattle.reading.specs.declared.Refused.{Refused}
use Rattle.reading.specs.Answers.{reading_of, Stated, states}
use Rattle.reading.specs.Promises.{ReadPromise}
use Rattle.earlier.specs.BadLine.{TenNumbers, ten_bad, ten_good, ten_line_numbers, is_admitted, ten_term_numbers, TenText, ten_bad_line, ten_well_formed, ten_text_of, TenOutcome, ten_refused, ten_accepted, ten_outcome}

-- ---- a line that has a fault was bad, and one without was good, with the same numbers; so it is of a term's line
abbrev pub line_as_ten : Numbers → TenNumbers
line_as_ten (faulty f) = ten_bad
line_as_ten (good zs) = ten_good zs

abbrev pub SameLine : Type 0
SameLine = (letter : ℕ) (ns : List Bool) (l : Line) → ten_line_numbers letter ns l ≡ line_as_ten (line_numbers letter ns l)

-- a term's line was bad, too, where its term was not admitted
abbrev pub when_admitted : ℕ → List Term → TenNumbers → TenNumbers
when_admitted d ts ten_bad = ten_bad
when_admitted d ts (ten_good zs) = cond (is_admitted d ts (term_of zs)) (ten_good zs) ten_bad

abbrev pub SameTerm : Type 0
SameTerm = (d : ℕ) (ts : List Term) (l : Line) → when_admitted d ts (ten_term_numbers l) ≡ line_as_ten (term_numbers d ts l)

-- ---- a text is bad at the line at which it was bad, and says what it said
abbrev pub text_as_ten : Text → TenText
text_as_ten (bad_line n f) = ten_bad_line n
text_as_ten (well_formed w) = ten_well_formed w

abbrev pub SameText : Type 0
SameText = (ls : List Line) → ten_text_of ls ≡ text_as_ten (text_of ls)

-- ---- 14 to 20 are given just where 10 was, with its line; every other number stays, and so does what an accepted text says
abbrev pub as_ten : Outcome → TenOutcome
as_ten (refused n line field) = ten_refused (cond (leb 14 n) 10 n) line
as_ten (accepted w) = ten_accepted w

abbrev pub SameOutcome : Type 0
SameOutcome = (text : List ℕ) → ten_outcome text ≡ as_ten (outcome text)

-- ---- so `read` answers the same sheet for each text that was accepted
abbrev pub SheetSame : Type 0
SheetSame = (text : List ℕ) (r : Result Sheet Refused) (w : Said) → ReadPromise text r → ten_outcome text ≡ ten_accepted w → r ≡ reading_of (accepted w)

-- and accepts no other: where it answers no refusal, the text was accepted, and its sheet is the answer
abbrev pub AcceptedBefore : Type 0
AcceptedBefore = (text : List ℕ) (r : Result Sheet Refused) → ReadPromise text r → (states r).refusal ≡ 0 → (w : Said) × (ten_outcome text ≡ ten_accepted w) × (r ≡ reading_of (accepted w))

-- and where it answered a refusal, it answers one with the same line, by the same number or by one of 14 to 20 for 10
pub record RefusedSame (n line : ℕ) (r : Stated) : Type 0 where
  pub same_line : r.line ≡ line
  pub same_number : (n ≡ 10 → ⊥) → r.refusal ≡ n
  pub split : n ≡ 10 → (14 ≤ r.refusal) × (r.refusal ≤ 20)

abbrev pub RefusalSame : Type 0
RefusalSame = (text : List ℕ) (r : Result Sheet Refused) (n line : ℕ) → ReadPromise text r → ten_outcome text ≡ ten_refused n line → RefusedSame n line (states r)
