-- What the page says of reading a text, as statements, each with all that it holds for. That they hold is proofs/ReadFacts, Order, TextTerms and AnyOrder.
use Rattle.std.specs.Prelude.{◌≡◌, List, [], ◌∷◌, ◌++◌, map, ℕ, ◌+◌, ◌≤◌, ltb, eqb, ℤ, pos, length, take, get_or}
use Rattle.algebra.specs.Sum.{◌⋯◌}
use Rattle.algebra.specs.Triangle.{place}
use Rattle.page.specs.Sheet.{count, A}
use Rattle.page.specs.Refusals.{Row, ◌when◌, table, first}
use Rattle.page.specs.SheetLine.{Line, lines, fields, Fault, worths, number_at, whole_at}
use Rattle.page.specs.SheetText.{coefficient_of, Said, Text, bad_line, well_formed, text_of, in_order, sheet_in, to_read, Outcome, refused, accepted, outcome}

-- ---- the order i = 0..d and within it j = 0..d-i: what is listed in that order has A(i,j) at the place of (i,j)
abbrev pub InOrderAt : Type 0
InOrderAt = (d : ℕ) (A : ℕ → ℕ → ℤ) (i j : ℕ) → i + j ≤ d → get_or (in_order d A) (place d i j) (pos 0) ≡ A i j

-- so A(i,j) of a text's sheet is the coefficient that its terms give to (i,j), 0 where none is named
abbrev pub TermsAre : Type 0
TermsAre = (w : Said) (i j : ℕ) → i + j ≤ w.d → A (sheet_in w) i j ≡ coefficient_of w.terms i j

-- a line `T` i j coefficient, after the first four, gives A(i,j)
abbrev pub TermGiven : Type 0
TermGiven = (ls more : List Line) (l : Line) (v : Said) → 4 ≤ length ls → text_of (ls ++ (l ∷ more)) ≡ well_formed v →
    A (sheet_in v) (whole_at (worths l) 0) (whole_at (worths l) 1) ≡ number_at (worths l) 2

-- ---- reading never meets 2: a well-formed text has as many coefficients as its degree asks for
abbrev pub AsManyCoefficients : Type 0
AsManyCoefficients = (w : Said) → length (sheet_in w).coefficients ≡ count w.d

-- ---- the number of a refusal is one of 1, 3, 4, 5, 6, 11 and 14 to 20: 10 is never given again. 14 to 20 have a line, counted from 1; no other number has a line or a field
pub record ReadNumber (n line field : ℕ) : Type 0 where
  pub not_0 : n ≡ 0 → ⊥
  pub not_2 : n ≡ 2 → ⊥
  pub not_between : 7 ≤ n → n ≤ 10 → ⊥
  pub not_of_pictures : 12 ≤ n → n ≤ 13 → ⊥
  pub at_most : n ≤ 20
  pub counted : 14 ≤ n → 1 ≤ line
  pub lineless : n ≤ 11 → (line ≡ 0) × (field ≡ 0)

abbrev pub ReadNever : Type 0
ReadNever = (text : List ℕ) (n line field : ℕ) → outcome text ≡ refused n line field → ReadNumber n line field

-- ---- the number is that of the first row that holds, 11 and then 14 to 20 before the rest; 0 where the text is accepted
abbrev pub number_of : Outcome → ℕ
number_of (refused n line field) = n
number_of (accepted w) = 0

-- the rows 14 to 20, of which the fault of a bad line is one
abbrev pub fault_rows : ℕ → List Row
fault_rows n = map (λ row. row when eqb n row) (14 ⋯ 20)

abbrev pub rows_of : Text → List Row
rows_of (bad_line n f) = fault_rows f.number
rows_of (well_formed w) = fault_rows 0 ++ table (to_read w)

abbrev pub text_table : List ℕ → List Row
text_table text = (11 when ltb 8_192 (length text)) ∷ rows_of (text_of (lines text))

abbrev pub ReadTable : Type 0
ReadTable = (text : List ℕ) → number_of (outcome text) ≡ first (text_table text)

-- ---- the bad line is one of the text, or the first line after its end
abbrev pub BadWithin : Type 0
BadWithin = (ls : List Line) (n : ℕ) (f : Fault) → text_of ls ≡ bad_line n f → n ≤ length ls + 1

-- and a bad line of the text stays the bad one, by the same fault, whatever lines come after
abbrev pub BadStays : Type 0
BadStays = (ls more : List Line) (n : ℕ) (f : Fault) → text_of ls ≡ bad_line n f → n ≤ length ls → text_of (ls ++ more) ≡ bad_line n f

-- bytes after an LF are lines of their own: they change none of those before
abbrev pub LinesJoin : Type 0
LinesJoin = (text more : List ℕ) → lines (text ++ (10 ∷ more)) ≡ lines (text ++ (10 ∷ [])) ++ lines more

-- a tab parts the fields before it from those after it
abbrev pub FieldsJoin : Type 0
FieldsJoin = (before more : List ℕ) → fields (before ++ (9 ∷ more)) ≡ fields before ++ fields more

-- a text in which one of the first four lines is missing is not well-formed
abbrev pub FourLines : Type 0
FourLines = (ls : List Line) (w : Said) → text_of ls ≡ well_formed w → 4 ≤ length ls

-- ---- terms may come in any order: two of them that stand side by side, after the first four lines, may be exchanged, and the text is well-formed as before, with the same sheet and mode
pub record SameSheet (v : Said) (t : Text) : Type 0 where
  pub said : Said
  pub well : t ≡ well_formed said
  pub sheet : sheet_in said ≡ sheet_in v
  pub mode : said.mode ≡ v.mode

abbrev pub AnyOrder : Type 0
AnyOrder = (ls more : List Line) (a b : Line) (v : Said) → 4 ≤ length ls → text_of (ls ++ (a ∷ b ∷ more)) ≡ well_formed v → SameSheet v (text_of (ls ++ (b ∷ a ∷ more)))

-- ---- the first 8,193 bytes decide: more of a text need not be held
abbrev pub FirstDecide : Type 0
FirstDecide = (text : List ℕ) → outcome (take 8_193 text) ≡ outcome text
