-- Request #105, what is wrong with this line: what the request says of a line's fault and of a text's, as statements. That they hold is proofs/LineFaults and proofs/TextFaults.
use Rattle.std.specs.Prelude.{◌≡◌, Bool, true, false, ◌||◌, cond, List, [], ◌∷◌, ◌++◌, ℕ, ◌+◌, ◌-◌, ◌≤◌, ◌<◌, eqb, length, get_or, take}
use Rattle.page.specs.SheetLine.{Line, ended_line, lines, is_written, is_within, worth, unsigned, signed, letter_field, number_fields, is_letter, reads_well, Fault, fault, missing, Numbers, faulty, good, worths, line_numbers}
use Rattle.page.specs.SheetText.{Term, term_of, is_named, is_beyond, Said, bad_line, well_formed, text_of, term_numbers, refused, outcome}

-- ---- what each number says of a line: its own condition holds, and nothing tried before it does
-- the field of a line's n-th number, from 0, and whether that number may be negative
abbrev pub field_of : Line → ℕ → List ℕ
field_of l n = get_or (number_fields l) n []

abbrev pub sign_of : List Bool → ℕ → Bool
sign_of ns n = get_or ns n unsigned

-- the letter and the count are right, and the numbers before the n-th read well
pub record RightBefore (letter : ℕ) (ns : List Bool) (l : Line) (n : ℕ) : Type 0 where
  pub letter_right : is_letter letter (letter_field l) ≡ true
  pub count_right : length (number_fields l) ≡ length ns
  pub each_read : (m : ℕ) → m < n → reads_well (sign_of ns m) (field_of l m) ≡ true

-- what a line of this letter and these signs comes to. A term's line is judged as a term once its first e numbers read well: `beyond` and `twice` say how, and are false for any other line
module _ (letter : ℕ) (ns : List Bool) (e : ℕ) (beyond twice : Bool) (l : Line) where
  -- nothing is wrong with the term, where it is judged before the n-th number
  pub record TermFine (n : ℕ) : Type 0 where
    pub within_degree : e ≤ n → beyond ≡ false
    pub new : e ≤ n → twice ≡ false

  pub data Means : Numbers → Type 0 where
    -- 14 at field 1
    wrong_letter : is_letter letter (letter_field l) ≡ false → Means (faulty (fault 14 1))
    -- 15 at field 0, after the letter
    wrong_count : is_letter letter (letter_field l) ≡ true → (length (number_fields l) ≡ length ns → ⊥) → Means (faulty (fault 15 0))
    -- 16 and then 17 at the leftmost field that does not read well
    badly_written : (n : ℕ) → n < length ns → RightBefore letter ns l n → TermFine n → is_written (field_of l n) ≡ false → Means (faulty (fault 16 (n + 2)))
    out_of_range : (n : ℕ) → n < length ns → RightBefore letter ns l n → TermFine n → is_written (field_of l n) ≡ true → is_within (sign_of ns n) (worth (field_of l n)) ≡ false → Means (faulty (fault 17 (n + 2)))
    -- 18 and then 19 at field 2, once the exponents read well
    beyond_degree : e < length ns → RightBefore letter ns l e → beyond ≡ true → Means (faulty (fault 18 2))
    given_twice : e < length ns → RightBefore letter ns l e → beyond ≡ false → twice ≡ true → Means (faulty (fault 19 2))
    -- 20 at field 0, last
    unended : RightBefore letter ns l (length ns) → TermFine (length ns) → l.ended ≡ false → Means (faulty (fault 20 0))
    -- no fault: the numbers
    faultless : RightBefore letter ns l (length ns) → TermFine (length ns) → l.ended ≡ true → Means (good (worths l))

-- ---- so it is of each of the first four lines, and of a term's line: what it comes to means just that, and nothing else means it
abbrev pub LineMeans : Type 0
LineMeans = (letter : ℕ) (ns : List Bool) (l : Line) → Means letter ns (length ns) false false l (line_numbers letter ns l)

abbrev pub LineMeant : Type 0
LineMeant = (letter : ℕ) (ns : List Bool) (l : Line) (r : Numbers) → Means letter ns (length ns) false false l r → r ≡ line_numbers letter ns l

abbrev pub TermFor : ℕ → List Term → Line → Numbers → Type 0
TermFor d ts l r = let t = term_of (worths l) in Means 84 (unsigned ∷ unsigned ∷ signed ∷ []) 2 (is_beyond d t.i t.j) (is_named t.i t.j ts) l r

abbrev pub TermMeans : Type 0
TermMeans = (d : ℕ) (ts : List Term) (l : Line) → TermFor d ts l (term_numbers d ts l)

abbrev pub TermMeant : Type 0
TermMeant = (d : ℕ) (ts : List Term) (l : Line) (r : Numbers) → TermFor d ts l r → r ≡ term_numbers d ts l

-- ---- which field goes with which number, in a text of m lines
-- how many numbers the n-th line has: `D`, `K` and `M` one, `B` and each `T` three
abbrev pub numbers_on : ℕ → ℕ
numbers_on n = cond (eqb n 1 || eqb n 3 || eqb n 4) 1 3

pub data FaultAt (m line : ℕ) : Fault → Type 0 where
  at_letter : 1 ≤ line → line ≤ m → FaultAt m line (fault 14 1)
  -- one of the first four is missing: the first line after the end
  at_no_line : line ≡ m + 1 → line ≤ 4 → FaultAt m line missing
  at_count : 1 ≤ line → line ≤ m → FaultAt m line (fault 15 0)
  at_badly_written : (field : ℕ) → 1 ≤ line → line ≤ m → 2 ≤ field → field ≤ numbers_on line + 1 → FaultAt m line (fault 16 field)
  at_out_of_range : (field : ℕ) → 1 ≤ line → line ≤ m → 2 ≤ field → field ≤ numbers_on line + 1 → FaultAt m line (fault 17 field)
  -- only a term's line has a term fault
  at_beyond : 5 ≤ line → line ≤ m → FaultAt m line (fault 18 2)
  at_twice : 5 ≤ line → line ≤ m → FaultAt m line (fault 19 2)
  at_end : 1 ≤ line → line ≤ m → FaultAt m line (fault 20 0)

abbrev pub FaultPlaced : Type 0
FaultPlaced = (ls : List Line) (n : ℕ) (f : Fault) → text_of ls ≡ bad_line n f → FaultAt (length ls) n f

-- an unended line is the last one
abbrev pub UnendedLast : Type 0
UnendedLast = (text : List ℕ) (line field : ℕ) → outcome text ≡ refused 20 line field → line ≡ length (lines text)

-- ---- the fault is found in the first bad line
-- the n-th line, from 1; its letter, and the signs of its numbers
abbrev pub line_at : List Line → ℕ → Line
line_at ls n = get_or ls (n - 1) (ended_line [])

abbrev pub letter_on : ℕ → ℕ
letter_on n = cond (eqb n 1) 68 (cond (eqb n 2) 66 (cond (eqb n 3) 75 (cond (eqb n 4) 77 84)))

abbrev pub signs_on : ℕ → List Bool
signs_on n = cond (eqb n 1 || eqb n 3 || eqb n 4) (unsigned ∷ []) (cond (eqb n 2) (signed ∷ signed ∷ unsigned ∷ []) (unsigned ∷ unsigned ∷ signed ∷ []))

-- what the n-th line comes to: one of the first four by itself, a term's line with what the lines before it say
pub data ComesTo (ls : List Line) (n : ℕ) (f : Fault) : Type 0 where
  as_head : n ≤ 4 → line_numbers (letter_on n) (signs_on n) (line_at ls n) ≡ faulty f → ComesTo ls n f
  as_term : (w : Said) → 5 ≤ n → text_of (take (n - 1) ls) ≡ well_formed w → term_numbers w.d w.terms (line_at ls n) ≡ faulty f → ComesTo ls n f

-- the fault of the text is that of the bad line
abbrev pub FaultFound : Type 0
FaultFound = (ls : List Line) (n : ℕ) (f : Fault) → text_of ls ≡ bad_line n f → n ≤ length ls → ComesTo ls n f

-- which is the first: the lines before it have no fault, though one of the first four may be missing yet; and with it alone after them the text is bad there, by the same fault
abbrev pub FirstBad : Type 0
FirstBad = (ls : List Line) (n : ℕ) (f : Fault) → text_of ls ≡ bad_line n f → n ≤ length ls →
    ((m : ℕ) (g : Fault) → text_of (take (n - 1) ls) ≡ bad_line m g → (m ≡ n) × (g ≡ missing)) × (text_of (take n ls) ≡ bad_line n f)

-- whatever bytes come after that line's LF
abbrev pub FaultStays : Type 0
FaultStays = (text more : List ℕ) (n line field : ℕ) → outcome (text ++ (10 ∷ [])) ≡ refused n line field → 1 ≤ line → line ≤ length (lines (text ++ (10 ∷ []))) →
    length (text ++ (10 ∷ more)) ≤ 8_192 → outcome (text ++ (10 ∷ more)) ≡ refused n line field
