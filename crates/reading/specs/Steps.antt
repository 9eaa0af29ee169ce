-- What the contracts of inner functions say. None of it is the page's.
use Rattle.std.specs.Prelude.{◌≡◌, Bool, cond, List, [], ◌∷◌, ◌++◌, ℕ, ◌+◌, ◌*◌, ◌-◌, ◌≤◌, ◌<◌, leb, eqb, ℤ, pos, length, get_or, take, drop, replicate, Option, Some, None, Result, Ok, Err}
use Rattle.page.specs.declared.Refusal.{Refusal}
use Rattle.page.specs.declared.Refusal.TheVariants.{Beyond, Twice}
use Rattle.page.specs.Numbers.{number_of}
use Rattle.page.specs.Sheet.{count}
use Rattle.page.specs.SheetLine.{Line, lines, fault, number_at, whole_at}
use Rattle.page.specs.SheetText.{Term, is_named, is_beyond, coefficient_of, Said, Text, bad_line, well_formed, line_then, with_terms, terms_from, text_of, in_order, outcome_of}
use Rattle.lines.specs.declared.Fault.{Fault}
use Rattle.lines.specs.declared.Taken.{Taken}
use Rattle.reading.specs.declared.Head.{Head}
use Rattle.reading.specs.declared.Sheet.{Sheet}
use Rattle.reading.specs.declared.Refused.{Refused}
use Rattle.reading.specs.Answers.{reading_of}

-- ---- a refusal of the whole text; one at a line, by its fault; and the text that is bad there
abbrev pub refused_text : Refusal → Refused
refused_text refusal = record { refusal = refusal; line = 0; field = 0 }

abbrev pub refused_at : ℕ → Fault → Refused
refused_at line f = record { refusal = f.refusal; line = line; field = f.field }

abbrev pub bad_at : Refused → Text
bad_at e = bad_line e.line (fault (number_of e.refusal) e.field)

-- ---- `head_line`: whatever is done with its numbers and the lines after it
pub record LineGood (text : List ℕ) (at line letter n : ℕ) (signs : List Bool) (t : Taken) : Type 0 where
  pub then : (rest : List ℤ → List Line → Text) → line_then line letter (take n signs) (lines (drop at text)) rest ≡ rest (take n t.values) (lines (drop t.next text))
  pub three : length t.values ≡ 3
  pub within : t.next ≤ length text

abbrev pub HeadLine : List ℕ → ℕ → ℕ → ℕ → ℕ → List Bool → Result Taken Refused → Type 0
HeadLine text at line letter n signs (Ok t) = LineGood text at line letter n signs t
HeadLine text at line letter n signs (Err e) = (rest : List ℤ → List Line → Text) → line_then line letter (take n signs) (lines (drop at text)) rest ≡ bad_at e

-- ---- `read_head`
abbrev pub said_by : Head → List Term → Said
said_by h ts = record { d = h.d; X = h.x; Y = h.y; s = h.s; k = h.k; mode = h.mode; terms = ts }

-- `head_of`: by the numbers of each line
abbrev pub head_by : ℕ → List ℤ → List ℤ → List ℤ → List ℤ → Head
head_by next d b k m = record { next = next; d = whole_at d 0; x = number_at b 0; y = number_at b 1; s = whole_at b 2; k = whole_at k 0; mode = whole_at m 0 }

pub record HeadGood (text : List ℕ) (h : Head) : Type 0 where
  pub read : text_of (lines text) ≡ terms_from 5 (said_by h []) (lines (drop h.next text))
  pub within : h.next ≤ length text

abbrev pub HeadRead : List ℕ → Result Head Refused → Type 0
HeadRead text (Ok h) = HeadGood text h
HeadRead text (Err e) = text_of (lines text) ≡ bad_at e

-- ---- `term_fault`: the entries of the term i, j stand at 9i + j
abbrev pub place_of : ℕ → ℕ → ℕ
place_of i j = 9 * i + j

unfoldable pub term_fault_in : ℕ → ℕ → ℕ → List ℕ → Result Unit Refusal
term_fault_in d i j named = cond (is_beyond d i j) (Err Beyond) (cond (eqb (get_or named (place_of i j) 0) 0) (Ok tt) (Err Twice))

-- `line_fault`: once both exponents are read, the term's fault comes first
abbrev pub or_line : Result Unit Refusal → Option Fault → Result Unit Fault
or_line (Err e) f = Err (record { refusal = e; field = 2 })
or_line (Ok u) None = Ok tt
or_line (Ok u) (Some f) = Err f

abbrev pub fault_by : Taken → ℕ → List ℕ → Result Unit Fault
fault_by taken d named = or_line (cond (leb 2 taken.read) (term_fault_in d (whole_at taken.values 0) (whole_at taken.values 1) named) (Ok tt)) taken.fault

-- two tables hold the terms
pub record Tables (ts : List Term) (values : List ℤ) (named : List ℕ) : Type 0 where
  pub long : length values ≡ 81
  pub marks : length named ≡ 81
  pub each : (i j : ℕ) → i ≤ 8 → j ≤ 8 → get_or values (place_of i j) (pos 0) ≡ coefficient_of ts i j
  pub names : (i j : ℕ) → i ≤ 8 → j ≤ 8 → get_or named (place_of i j) 0 ≡ cond (is_named i j ts) 1 0

-- ---- `term_line`: whatever the line's number and the terms before it
pub record TermGood (text : List ℕ) (at d : ℕ) (values values' : List ℤ) (named named' : List ℕ) (next : ℕ) : Type 0 where
  pub term : Term
  pub step : (n : ℕ) (w : Said) → w.d ≡ d → Tables w.terms values named → terms_from n w (lines (drop at text)) ≡ terms_from (n + 1) (with_terms w (term ∷ w.terms)) (lines (drop next text))
  pub kept : (ts : List Term) → Tables ts values named → Tables (term ∷ ts) values' named'
  pub within : next ≤ length text
  pub further : at < next

abbrev pub TermTold : List ℕ → ℕ → ℕ → List ℤ → List ℤ → List ℕ → List ℕ → Result ℕ Fault → Type 0
TermTold text at d values values' named named' (Ok next) = TermGood text at d values values' named named' next
TermTold text at d values values' named named' (Err f) = (n : ℕ) (w : Said) → w.d ≡ d → Tables w.terms values named → terms_from n w (lines (drop at text)) ≡ bad_at (refused_at n f)

pub record TermTaken (text : List ℕ) (at d : ℕ) (values values' : List ℤ) (named named' : List ℕ) (r : Result ℕ Fault) : Type 0 where
  pub told : TermTold text at d values values' named named' r
  pub long : (length values' ≡ 81) × (length named' ≡ 81)

-- ---- `read_terms`
pub record TermsGood (text : List ℕ) (from d : ℕ) (values : List ℤ) : Type 0 where
  pub terms : List Term
  pub read : (w : Said) → w.d ≡ d → w.terms ≡ [] → terms_from 5 w (lines (drop from text)) ≡ well_formed (with_terms w terms)
  pub held : (i j : ℕ) → i ≤ 8 → j ≤ 8 → get_or values (place_of i j) (pos 0) ≡ coefficient_of terms i j

abbrev pub TermsTold : List ℕ → ℕ → ℕ → List ℤ → Result Unit Refused → Type 0
TermsTold text from d values (Ok u) = TermsGood text from d values
TermsTold text from d values (Err e) = (w : Said) → w.d ≡ d → w.terms ≡ [] → terms_from 5 w (lines (drop from text)) ≡ bad_at e

pub record TermsRead (text : List ℕ) (from d : ℕ) (values : List ℤ) (r : Result Unit Refused) : Type 0 where
  pub told : TermsTold text from d values r
  pub long : length values ≡ 81

-- ---- `gathered`: the table's coefficients in the page's order, and zeros
abbrev pub table_at : List ℤ → ℕ → ℕ → ℤ
table_at values i j = get_or values (place_of i j) (pos 0)

abbrev pub gathered_from : ℕ → List ℤ → List ℤ
gathered_from d values = in_order d (table_at values) ++ replicate (45 - count d) (pos 0)

-- `judged`: whatever the terms that the table holds
abbrev pub Judged : Head → List ℤ → Result Sheet Refused → Type 0
Judged h values r = (ts : List Term) → ((i j : ℕ) → i ≤ 8 → j ≤ 8 → get_or values (place_of i j) (pos 0) ≡ coefficient_of ts i j) → r ≡ reading_of (outcome_of (well_formed (said_by h ts)))
