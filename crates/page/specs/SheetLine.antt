-- A line of a sheet text, and what may be wrong with it (request #105): its first fault, or its numbers. A text is a list of bytes.
use Rattle.std.specs.Prelude.{Bool, true, false, not, ◌&&◌, ◌||◌, cond, List, [], ◌∷◌, ◌++◌, map, ℕ, ◌+◌, ◌*◌, ◌-◌, ◌^◌, leb, eqb, ℤ, pos, neg_ℤ, nat_abs, length, get_or, drop}
use Rattle.std.specs.Int.Signed.{lt_z}

-- ---- lines: each is ended by LF (byte 10); bytes after the last LF are an unended last line
pub record Line : Type 0 where
  pub bytes : List ℕ
  pub ended : Bool

abbrev pub ended_line : List ℕ → Line
ended_line bs = record { bytes = bs; ended = true }

-- a byte that is no LF stands before the rest of its line
abbrev pub before_line : ℕ → List Line → List Line
before_line b [] = record { bytes = b ∷ []; ended = false } ∷ []
before_line b (l ∷ ls) = record { bytes = b ∷ l.bytes; ended = l.ended } ∷ ls

unfoldable pub lines : List ℕ → List Line
lines [] = []
lines (b ∷ bs) = cond (eqb b 10) (ended_line [] ∷ lines bs) (before_line b (lines bs))

-- ---- fields: parted by one tab (byte 9), so that two tabs hold an empty field
abbrev pub before_field : ℕ → List (List ℕ) → List (List ℕ)
before_field b [] = (b ∷ []) ∷ []
before_field b (f ∷ fs) = (b ∷ f) ∷ fs

unfoldable pub fields : List ℕ → List (List ℕ)
fields [] = [] ∷ []
fields (b ∷ bs) = cond (eqb b 9) ([] ∷ fields bs) (before_field b (fields bs))

-- ---- numbers: decimal, no plus, no leading zero, no `-0`
abbrev pub is_digit : ℕ → Bool
is_digit b = leb 48 b && leb b 57

unfoldable pub all_digits : List ℕ → Bool
all_digits [] = true
all_digits (b ∷ bs) = is_digit b && all_digits bs

abbrev pub is_empty : List ℕ → Bool
is_empty [] = true
is_empty (b ∷ bs) = false

-- `0`, or digits of which the first is not 0
abbrev pub is_decimal : List ℕ → Bool
is_decimal [] = false
is_decimal (b ∷ bs) = is_digit b && all_digits bs && (not (eqb b 48) || is_empty bs)

-- the number that digits write, n standing before them
unfoldable pub amount : ℕ → List ℕ → ℕ
amount n [] = n
amount n (b ∷ bs) = amount (10 * n + (b - 48)) bs

-- a field as a sign and digits: `-` is byte 45
abbrev pub is_minus : List ℕ → Bool
is_minus [] = false
is_minus (b ∷ bs) = eqb b 45

abbrev pub without_sign : List ℕ → List ℕ
without_sign [] = []
without_sign (b ∷ bs) = cond (eqb b 45) bs (b ∷ bs)

abbrev pub is_zero : List ℕ → Bool
is_zero f = eqb (amount 0 f) 0

-- decimal, no plus, no leading zero, no `-0`
abbrev pub is_written : List ℕ → Bool
is_written f = is_decimal (without_sign f) && not (is_minus f && is_zero (without_sign f))

-- the number that a field writes
abbrev pub worth : List ℕ → ℤ
worth f = cond (is_minus f) (neg_ℤ (pos (amount 0 (without_sign f)))) (pos (amount 0 f))

-- within signed 32 bits; only X, Y and a coefficient may be negative
abbrev pub unsigned : Bool
unsigned = false

abbrev pub signed : Bool
signed = true

abbrev pub is_within : Bool → ℤ → Bool
is_within negative z = lt_z z (pos (2 ^ 31)) && not (lt_z z (cond negative (neg_ℤ (pos (2 ^ 31))) (pos 0)))

-- ---- the fields of a line: field 1 is its letter, and each field after it has a number
abbrev pub letter_field : Line → List ℕ
letter_field l = get_or (fields l.bytes) 0 []

abbrev pub number_fields : Line → List (List ℕ)
number_fields l = drop 1 (fields l.bytes)

abbrev pub is_letter : ℕ → List ℕ → Bool
is_letter letter [] = false
is_letter letter (b ∷ bs) = eqb b letter && is_empty bs

-- a field reads well: the number is well written, and it is one that may stand there
abbrev pub reads_well : Bool → List ℕ → Bool
reads_well negative f = is_written f && is_within negative (worth f)

-- ---- a fault: its number, and the field at which it stands, 0 where none is meant
pub record Fault : Type 0 where
  pub number : ℕ
  pub field : ℕ

abbrev pub fault : ℕ → ℕ → Fault
fault n field = record { number = n; field = field }

-- a fault that is tried, and whether the line has it
pub record Trial : Type 0 where
  pub tried : Fault
  pub holds : Bool

infix 3 ◌at_field◌when◌
abbrev pub ◌at_field◌when◌ : ℕ → ℕ → Bool → Trial
n at_field m when b = record { tried = fault n m; holds = b }

-- ---- the faults of a line, in the order in which they are tried
-- a number badly written; a number outside 32 bits, or negative where it may not be
abbrev pub field_faults : ℕ → Bool → List ℕ → List Trial
field_faults n negative f = (16 at_field n when not (is_written f)) ∷ (17 at_field n when not (is_within negative (worth f))) ∷ []

-- the leftmost faulty field decides, from the n-th on, and within it the order just given
abbrev pub number_faults : ℕ → List Bool → List (List ℕ) → List Trial
number_faults n [] fs = []
number_faults n (s ∷ ss) [] = []
number_faults n (s ∷ ss) (f ∷ fs) = field_faults n s f ++ number_faults (n + 1) ss fs

-- of a line with this letter and so many numbers, which have the faults in between
abbrev pub line_faults : ℕ → ℕ → List Trial → Line → List Trial
line_faults letter count between l =
    -- unknown or misplaced line letter: the letter is field 1
    (14 at_field 1 when not (is_letter letter (letter_field l)))
    -- wrong count of fields: it stands at field 0, and is tried after the letter
    ∷ (15 at_field 0 when not (eqb (length (number_fields l)) count))
    ∷ between
    -- an unended line: it stands at field 0, and is tried last
    ++ ((20 at_field 0 when not l.ended) ∷ [])

-- a missing line is a letter fault, and stands at field 0
abbrev pub missing : Fault
missing = fault 14 0

-- ---- a line has its first fault, or its numbers
pub data Numbers : Type 0 where
  faulty : Fault → Numbers
  good : List ℤ → Numbers

abbrev pub first_fault : List Trial → List ℤ → Numbers
first_fault [] zs = good zs
first_fault (t ∷ ts) zs = cond t.holds (faulty t.tried) (first_fault ts zs)

-- what the fields after the letter write
abbrev pub worths : Line → List ℤ
worths l = map worth (number_fields l)

-- a line with this letter and a number for each sign
unfoldable pub line_numbers : ℕ → List Bool → Line → Numbers
line_numbers letter ns l = first_fault (line_faults letter (length ns) (number_faults 2 ns (number_fields l)) l) (worths l)

-- the n-th of a line's numbers, from 0, and its size where it may not be negative
abbrev pub number_at : List ℤ → ℕ → ℤ
number_at zs n = get_or zs n (pos 0)

abbrev pub whole_at : List ℤ → ℕ → ℕ
whole_at zs n = nat_abs (number_at zs n)
