-- What the contracts of inner functions say. None of it is the page's.
use Rattle.std.specs.Prelude.{◌≡◌, Bool, ◌&&◌, cond, List, [], ◌∷◌, ℕ, zero, suc, ◌+◌, ◌-◌, ◌^◌, ◌≤◌, ◌<◌, min, ltb, eqb, ℤ, pos, neg_ℤ, length, get_or, take, drop, replicate, Option, Some, None, Result, Ok, Err}
use Rattle.page.specs.declared.Refusal.{Refusal}
use Rattle.page.specs.declared.Refusal.TheVariants.{Letter, Fields, Written, Within, Unended}
use Rattle.page.specs.Numbers.{number_of}
use Rattle.page.specs.SheetLine.{Line, lines, fields, is_digit, is_decimal, is_written, is_within, amount, worth, is_letter, letter_field, number_fields, reads_well, fault, Numbers, faulty, good, worths, line_numbers}
use Rattle.lines.specs.declared.Parted.{Parted}
use Rattle.lines.specs.declared.Fault.{Fault}
use Rattle.lines.specs.declared.Numbers as Read
use Rattle.lines.specs.declared.Taken.{Taken}

-- ---- `number`: what a field holds, and by its sign
unfoldable pub number_in : Bool → List ℕ → Result ℤ Refusal
number_in negative f = cond (is_written f) (cond (is_within negative (worth f)) (Ok (worth f)) (Err Within)) (Err Written)

-- a field of one byte
abbrev pub single_in : ℕ → Result ℤ Refusal
single_in b = cond (is_digit b) (Ok (pos (b - 48))) (Err Written)

-- the digits' number, not above 2^32
abbrev pub decimal_in : List ℕ → Result ℕ Refusal
decimal_in f = cond (is_decimal f) (Ok (min (amount 0 f) (2 ^ 32))) (Err Written)

abbrev pub signless_in : ℕ → Result ℤ Refusal
signless_in n = cond (ltb 2_147_483_647 n) (Err Within) (Ok (pos n))

abbrev pub minus_in : Bool → ℕ → Result ℤ Refusal
minus_in negative n = cond (eqb n 0) (Err Written) (cond negative (cond (ltb 2_147_483_648 n) (Err Within) (Ok (neg_ℤ (pos n)))) (Err Within))

-- ---- `find`: where the first byte c stands, from a place on; the end where there is none
unfoldable pub index_of : ℕ → List ℕ → ℕ
index_of c [] = 0
index_of c (x ∷ l) = cond (eqb x c) 0 (suc (index_of c l))

pub record Finds (c : ℕ) (l : List ℕ) (from end : ℕ) : Type 0 where
  pub at : end ≡ from + index_of c (drop from l)
  pub within : end ≤ length l
  pub after : from ≤ length l

-- ---- `part`: field i, from 0, stands from after the end of the one before it; fields are counted up to 5
abbrev pub start_of : List ℕ → ℕ → ℕ
start_of ends zero = 0
start_of ends (suc i) = get_or ends i 0 + 1

pub record Stands (line : List ℕ) (i from end : ℕ) : Type 0 where
  pub bytes : get_or (fields line) i [] ≡ take (end - from) (drop from line)
  pub forward : from ≤ end
  pub within : end ≤ length line

pub record Parts (line : List ℕ) (r : Parted) : Type 0 where
  pub count : r.count ≡ min (length (fields line)) 5
  pub four : length r.ends ≡ 4
  pub each : (i : ℕ) → i < 4 → i < r.count → Stands line i (start_of r.ends i) (get_or r.ends i 0)

-- ---- `numbers_of`: what a line comes to, ended or not; how many of its numbers were read, and these
abbrev pub line_of : List ℕ → Bool → Line
line_of bytes ended = record { bytes = bytes; ended = ended }

-- by the fault, where there is one, and else by what comes then
abbrev pub unless_fault : Option Fault → Numbers → Numbers
unless_fault None rest = rest
unless_fault (Some f) rest = faulty (fault (number_of f.refusal) f.field)

-- how many numbers read well before the first that does not; none where letter or count are wrong
abbrev pub well_before : List Bool → List (List ℕ) → ℕ
well_before [] fs = 0
well_before (s ∷ ss) [] = 0
well_before (s ∷ ss) (f ∷ fs) = cond (reads_well s f) (suc (well_before ss fs)) 0

unfoldable pub read_in : ℕ → List Bool → Line → ℕ
read_in letter ns l = cond (is_letter letter (letter_field l) && eqb (length (number_fields l)) (length ns)) (well_before ns (number_fields l)) 0

pub record LineRead (line : List ℕ) (letter n : ℕ) (signs : List Bool) (r : Read.Numbers) : Type 0 where
  pub told : (ended : Bool) → line_numbers letter (take n signs) (line_of line ended) ≡ unless_fault r.fault (cond ended (good (take n r.values)) (faulty (fault 20 0)))
  pub read : (ended : Bool) → r.read ≡ read_in letter (take n signs) (line_of line ended)
  pub values : (ended : Bool) → take r.read r.values ≡ take r.read (worths (line_of line ended))
  pub three : length r.values ≡ 3

-- `opening`: by the letter, and then by the count of fields that is found and the one that is asked for
abbrev pub fault_at : Refusal → ℕ → Option Fault
fault_at refusal field = Some (record { refusal = refusal; field = field })

abbrev pub opening_by : Bool → ℕ → ℕ → Option Fault
opening_by right count asked = cond right (cond (eqb count asked) None (fault_at Fields 0)) (fault_at Letter 1)

-- `field_fault`: the fault after so many numbers
abbrev pub fault_after : Refusal → ℕ → List ℤ → Read.Numbers
fault_after refusal read values = record { fault = fault_at refusal (read + 2); read = read; values = values }

-- ---- `take_line`: what the line of a text from `at` on comes to
abbrev pub none_at : ℕ → Taken
none_at at = record { fault = fault_at Letter 0; next = at; read = 0; values = replicate 3 (pos 0) }

abbrev pub taken_as : Option Fault → ℕ → Read.Numbers → Taken
taken_as fault next r = record { fault = fault; next = next; read = r.read; values = r.values }

-- a fault of the line, and else that it is unended
abbrev pub or_unended : Option Fault → Option Fault
or_unended None = fault_at Unended 0
or_unended (Some f) = Some f

abbrev pub closed_at : Read.Numbers → ℕ → ℕ → Taken
closed_at r end n = cond (ltb end n) (taken_as r.fault (end + 1) r) (taken_as (or_unended r.fault) end r)

-- the line and those after it
pub record TakenLine (text : List ℕ) (at letter n : ℕ) (signs : List Bool) (r : Taken) : Type 0 where
  pub line : Line
  pub more : List Line
  pub here : lines (drop at text) ≡ line ∷ more
  pub told : line_numbers letter (take n signs) line ≡ unless_fault r.fault (good (take n r.values))
  pub read : r.read ≡ read_in letter (take n signs) line
  pub values : take r.read r.values ≡ take r.read (worths line)
  pub after : r.fault ≡ None → more ≡ lines (drop r.next text)
  pub further : r.fault ≡ None → at < r.next

pub record LineTaken (text : List ℕ) (at letter n : ℕ) (signs : List Bool) (r : Taken) : Type 0 where
  pub none : at ≡ length text → r.fault ≡ fault_at Letter 0
  pub some : at < length text → TakenLine text at letter n signs r
  pub three : length r.values ≡ 3
  pub within : r.next ≤ length text
