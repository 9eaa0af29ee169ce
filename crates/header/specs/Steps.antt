-- What the contracts say of a text from some byte on. The definition of a plain PBM stands in `pbm`.
use Rattle.std.specs.Prelude.{◌≡◌, false, List, ℕ, ◌+◌, ◌*◌, ◌-◌, ◌^◌, ◌≤◌, ◌<◌, min, ltb, length, take, drop, Option, None, Some}
use Rattle.page.specs.SheetLine.{is_digit}
use Rattle.pbm.specs.Refusals.{Found, not_plain}
use Rattle.pbm.specs.Steps.{leading, beyond, after_gap, is_parted, size_then, after_comment, opening_then, found_in, take_bits, found}
use Rattle.header.specs.declared.Head.{Head}
use Rattle.header.specs.declared.Size.{Size}

-- ---- `gap_end`: r is where the gap from `at` on ends, further on only if there is one
pub record GapPassed (text : List ℕ) (at r : ℕ) : Type 0 where
  pub rest : after_gap false (drop at text) ≡ drop r text
  pub parted : is_parted (drop at text) ≡ ltb at r
  pub further : at ≤ r
  pub within : r ≤ length text

-- ---- `digits_end`
pub record DigitsPassed (text : List ℕ) (at r : ℕ) : Type 0 where
  pub digits : leading is_digit (drop at text) ≡ take (r - at) (drop at text)
  pub rest : beyond is_digit (drop at text) ≡ drop r text
  pub further : at ≤ r
  pub within : r ≤ length text

-- ---- `comment_end`: whatever is done with what follows the LF or CR; and where there is none, nothing is
pub record CommentEnds (text : List ℕ) (at r : ℕ) : Type 0 where
  pub step : (rest : List ℕ → Found) → after_comment (drop at text) rest ≡ rest (drop (r + 1) text)
  pub further : at ≤ r
  pub within : r < length text

abbrev pub CommentPassed : List ℕ → ℕ → Option ℕ → Type 0
CommentPassed text at None = (rest : List ℕ → Found) → after_comment (drop at text) rest ≡ not_plain
CommentPassed text at (Some r) = CommentEnds text at r

-- ---- `opening_end`
pub record OpenedTo (text : List ℕ) (at r : ℕ) : Type 0 where
  pub step : (rest : List ℕ → Found) → opening_then (drop at text) rest ≡ rest (drop r text)
  pub further : at < r
  pub within : r ≤ length text

abbrev pub Opened : List ℕ → ℕ → Option ℕ → Type 0
Opened text at None = (rest : List ℕ → Found) → opening_then (drop at text) rest ≡ not_plain
Opened text at (Some r) = OpenedTo text at r

-- ---- `size_after`: the number as it is, of which no more than 2^63 is told
pub record SizeRead (text : List ℕ) (at : ℕ) (r : Size) : Type 0 where
  pub exact : ℕ
  pub step : (rest : ℕ → List ℕ → Found) → size_then (drop at text) rest ≡ rest exact (drop r.next text)
  pub told : r.value ≡ min exact (2 ^ 63)
  pub positive : 1 ≤ r.value
  pub within : r.next ≤ length text

abbrev pub SizeTaken : List ℕ → ℕ → Option Size → Type 0
SizeTaken text at None = (rest : ℕ → List ℕ → Found) → size_then (drop at text) rest ≡ not_plain
SizeTaken text at (Some r) = SizeRead text at r

-- ---- `read_head`: the sizes as they are
pub record HeadRead (text : List ℕ) (r : Head) : Type 0 where
  pub wide : ℕ
  pub high : ℕ
  pub step : found text ≡ found_in wide high (take_bits (wide * high) (drop r.next text))
  pub width_told : r.width ≡ min wide (2 ^ 63)
  pub height_told : r.height ≡ min high (2 ^ 63)
  pub width_positive : 1 ≤ r.width
  pub height_positive : 1 ≤ r.height
  pub within : r.next ≤ length text

abbrev pub HeadTaken : List ℕ → Option Head → Type 0
HeadTaken text None = found text ≡ not_plain
HeadTaken text (Some r) = HeadRead text r
