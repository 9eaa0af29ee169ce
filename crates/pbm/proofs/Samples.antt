-- The definitions at rasters and texts: pictures written, texts read, the corners of the grammar, and the refusals, computed.
use mathlib.Core.Path.{◌≡◌, refl}
use mathlib.Core.Bool.{false≢true}
use mathlib.Core.List.{List, [], ◌∷◌, ◌++◌, flat_map}
use Prim.Native.Nat.{ℕ}
use lib.ListN.{replicate}
use Rattle.algebra.specs.Sum.{run, span, ◌⋯◌}
use Rattle.verdicts.specs.Walking.{those}
use Rattle.page.specs.SheetLine.{all_digits, amount}
use Rattle.page.specs.Refusals.{first}
use Rattle.page.specs.ListingText.{digits_within, decimal}
use Rattle.pbm.specs.Writing.{head_text, row_text, rows_text, picture_text, text_length, raster_mask}
use Rattle.pbm.specs.Reading.{each, white, comment, last, then, Parts, plain_text, bits_in, ArePlain, mask}
use Rattle.pbm.specs.Refusals.{write_table, write_refusal, Found, not_plain, plain, depths, read_table, read_refusal}
use Rattle.pbm.specs.Steps.{leading, beyond, after_gap, after_comment, take_bits, found}

-- ---- bytes: blank, LF, CR, tab; `#`; a letter; digits
abbrev blank : ℕ
blank = 32

abbrev LF : ℕ
LF = 10

abbrev CR : ℕ
CR = 13

abbrev tab : ℕ
tab = 9

abbrev hash : ℕ
hash = 35

abbrev x : ℕ
x = 120

abbrev n0 : ℕ
n0 = 48

abbrev n1 : ℕ
n1 = 49

abbrev n2 : ℕ
n2 = 50

-- ---- written
-- `P1⏎2 2⏎01⏎10⏎`: the raster's bottom row is 1 2, its top row 3 1; only 1 is coloured
abbrev two_by_two : List ℕ
two_by_two = 80 ∷ n1 ∷ LF ∷ n2 ∷ blank ∷ n2 ∷ LF ∷ n0 ∷ n1 ∷ LF ∷ n1 ∷ n0 ∷ LF ∷ []

pub top_row_first : picture_text 1 (1 ∷ 2 ∷ 3 ∷ 1 ∷ 1 ∷ []) ≡ two_by_two
unfolding picture_text head_text rows_text row_text flat_map run span decimal digits_within
top_row_first = refl

pub only_one_is_coloured : (picture_text 0 (1 ∷ []) ≡ 80 ∷ n1 ∷ LF ∷ n1 ∷ blank ∷ n1 ∷ LF ∷ n1 ∷ LF ∷ []) × (picture_text 0 (255 ∷ []) ≡ 80 ∷ n1 ∷ LF ∷ n1 ∷ blank ∷ n1 ∷ LF ∷ n0 ∷ LF ∷ [])
unfolding picture_text head_text rows_text row_text flat_map run span decimal digits_within
only_one_is_coloured = (refl, refl)

-- only 128 columns are broken: 70 digits and 58
pub broken_row : row_text 128 [] 0 ≡ replicate 70 n0 ++ (LF ∷ replicate 58 n0 ++ (LF ∷ []))
unfolding row_text flat_map run span
broken_row = refl

pub unbroken_row : row_text 64 [] 0 ≡ replicate 64 n0 ++ (LF ∷ [])
unfolding row_text flat_map run span
unbroken_row = refl

pub lengths : (text_length 0 ≡ 9) × (text_length 1 ≡ 13) × (text_length 6 ≡ 4_169) × (text_length 7 ≡ 16_651)
unfolding text_length decimal digits_within
lengths = (refl, refl, refl, refl)

pub masks : raster_mask 1 (1 ∷ 2 ∷ 255 ∷ 1 ∷ 1 ∷ []) ≡ 1 ∷ 0 ∷ 0 ∷ 1 ∷ []
unfolding raster_mask
masks = refl

-- ---- read
abbrev picture : ℕ → ℕ → List ℕ → Found
picture w h bits = plain (record { width = w; height = h; bits = bits })

-- a picture of one cell, coloured
abbrev one : Found
one = picture 1 1 (1 ∷ [])

-- `P1 1 1⏎` and what follows
abbrev one_with : List ℕ → List ℕ
one_with rest = 80 ∷ n1 ∷ blank ∷ n1 ∷ blank ∷ n1 ∷ LF ∷ rest

pub reads_two : (found two_by_two ≡ picture 2 2 (0 ∷ 1 ∷ 1 ∷ 0 ∷ [])) × (mask 2 (0 ∷ 1 ∷ 1 ∷ 0 ∷ []) ≡ 1 ∷ 0 ∷ 0 ∷ 1 ∷ [])
unfolding found leading beyond after_gap after_comment take_bits amount mask flat_map run span
reads_two = (refl, refl)

-- `P1#x⏎2` and `2#x⏎2` part what they stand between, and so do CR, tab, and comments one after the other; a comment may follow the height at once
pub comments_part :
    (found (80 ∷ n1 ∷ hash ∷ x ∷ LF ∷ n2 ∷ hash ∷ x ∷ LF ∷ n1 ∷ LF ∷ n0 ∷ n1 ∷ []) ≡ picture 2 1 (0 ∷ 1 ∷ []))
    × (found (80 ∷ n1 ∷ CR ∷ hash ∷ hash ∷ CR ∷ hash ∷ LF ∷ tab ∷ n1 ∷ tab ∷ n1 ∷ hash ∷ n0 ∷ CR ∷ n1 ∷ []) ≡ one)
unfolding found leading beyond after_gap after_comment take_bits amount
comments_part = (refl, refl)

-- `P11 1⏎1` has no white space before the width; `#` after the white space that opens the digits, or among them, is an error; so are an unended comment and a vertical tab
pub no_plain_ones :
    (found (80 ∷ n1 ∷ n1 ∷ blank ∷ n1 ∷ LF ∷ n1 ∷ []) ≡ not_plain)
    × (found (one_with (hash ∷ x ∷ LF ∷ n1 ∷ [])) ≡ not_plain)
    × (found (80 ∷ n1 ∷ blank ∷ n2 ∷ blank ∷ n1 ∷ LF ∷ n1 ∷ hash ∷ LF ∷ n1 ∷ []) ≡ not_plain)
    × (found (80 ∷ n1 ∷ blank ∷ n1 ∷ blank ∷ n1 ∷ hash ∷ x ∷ n1 ∷ []) ≡ not_plain)
    × (found (one_with (11 ∷ n1 ∷ [])) ≡ not_plain)
    × (found (80 ∷ 52 ∷ blank ∷ n1 ∷ blank ∷ n1 ∷ LF ∷ n1 ∷ []) ≡ not_plain)
unfolding found leading beyond after_gap after_comment take_bits amount
no_plain_ones = (refl, refl, refl, refl, refl, refl)

-- what follows the last digit: nothing, or white space and then anything; not a letter, and not a digit more
pub what_follows :
    (found (one_with (n1 ∷ [])) ≡ one)
    × (found (one_with (blank ∷ n1 ∷ CR ∷ x ∷ hash ∷ [])) ≡ one)
    × (found (one_with (n1 ∷ x ∷ [])) ≡ not_plain)
    × (found (one_with (n1 ∷ n1 ∷ [])) ≡ not_plain)
    × (found (one_with (blank ∷ [])) ≡ not_plain)
unfolding found leading beyond after_gap after_comment take_bits amount
what_follows = (refl, refl, refl, refl, refl)

-- `4294967296`
abbrev large : List ℕ
large = 52 ∷ 50 ∷ 57 ∷ 52 ∷ 57 ∷ 54 ∷ 55 ∷ 50 ∷ 57 ∷ 54 ∷ []

-- sizes: leading zeros, none of 0, no sign; 2^32 by 2^32 with few digits is cut short
pub sizes :
    (found (80 ∷ n1 ∷ blank ∷ n0 ∷ n0 ∷ n1 ∷ blank ∷ n0 ∷ n1 ∷ LF ∷ n1 ∷ []) ≡ one)
    × (found (80 ∷ n1 ∷ blank ∷ n0 ∷ blank ∷ n1 ∷ LF ∷ n1 ∷ []) ≡ not_plain)
    × (found (80 ∷ n1 ∷ blank ∷ 43 ∷ n1 ∷ blank ∷ n1 ∷ LF ∷ n1 ∷ []) ≡ not_plain)
    × (found (80 ∷ n1 ∷ blank ∷ large ++ (blank ∷ large ++ (LF ∷ n1 ∷ n0 ∷ []))) ≡ not_plain)
unfolding found leading beyond after_gap after_comment take_bits amount
sizes = (refl, refl, refl, refl)

-- ---- a text by its parts: `P1#x⏎ 1` tab `01⏎` blank `1 x`
abbrev parts : Parts
parts = record {
  before_width = then (comment (x ∷ []) LF) (last (white blank));
  width = n1 ∷ [];
  before_height = last (white tab);
  height = n0 ∷ n1 ∷ [];
  opening = white LF;
  digits = blank ∷ [];
  last_digit = n1;
  after = blank ∷ x ∷ [];
}

pub by_parts : (plain_text parts ≡ 80 ∷ n1 ∷ hash ∷ x ∷ LF ∷ blank ∷ n1 ∷ tab ∷ n0 ∷ n1 ∷ LF ∷ blank ∷ n1 ∷ blank ∷ x ∷ []) × (bits_in parts ≡ 1 ∷ [])
unfolding plain_text bits_in those
by_parts = (refl, refl)

pub parts_plain : ArePlain parts
unfolding each all_digits amount bits_in those
parts_plain = record {
  width_parted = refl;
  width_written = refl;
  height_parted = refl;
  height_written = refl;
  opened = refl;
  digits_alone = refl;
  ends_in_digit = refl;
  complete = refl;
  followed = refl;
}

-- the same with a comment among the digits is none
abbrev commented : Parts
commented = record {
  before_width = last (white LF);
  width = n1 ∷ [];
  before_height = last (white blank);
  height = n1 ∷ [];
  opening = white LF;
  digits = hash ∷ x ∷ LF ∷ [];
  last_digit = n1;
  after = [];
}

pub comment_refused : ArePlain commented → ⊥
unfolding each
comment_refused h = false≢true h.digits_alone

-- ---- the refusals
-- 3 before 7; a raster, and a place, one byte short
pub refusals_of_writing :
    (write_refusal 8 0 0 ≡ 3) × (write_refusal 7 16_383 20_000 ≡ 7) × (write_refusal 7 16_384 16_650 ≡ 7) × (write_refusal 7 16_384 16_651 ≡ 0) × (write_refusal 0 1 9 ≡ 0)
unfolding write_table first text_length decimal digits_within
refusals_of_writing = (refl, refl, refl, refl, refl)

-- 12 before all; 13 before 7: sizes unequal, no power of two, and 256; a place one byte short
pub refusals_of_reading :
    (read_refusal not_plain 0 ≡ 12)
    × (read_refusal (picture 2 1 (0 ∷ 1 ∷ [])) 0 ≡ 13)
    × (read_refusal (picture 3 3 (replicate 9 0)) 9 ≡ 13)
    × (read_refusal (picture 256 256 []) 65_536 ≡ 13)
    × (read_refusal (picture 2 2 (replicate 4 0)) 3 ≡ 7)
    × (read_refusal (picture 2 2 (replicate 4 0)) 4 ≡ 0)
    × (depths (record { width = 128; height = 128; bits = [] }) ≡ 7 ∷ [])
unfolding read_table first depths those run span ◌⋯◌ mask flat_map
refusals_of_reading = (refl, refl, refl, refl, refl, refl, refl)
