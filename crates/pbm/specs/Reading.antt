-- Request #103, reading: which texts are plain PBMs, and of which picture. A grammar: the parts that a text is made of, and what each part may be.
use Rattle.std.specs.Prelude.{◌≡◌, Bool, true, not, ◌&&◌, ◌||◌, ℕ, ◌+◌, ◌*◌, ◌-◌, eqb, length, get_or}
use mathlib.Core.List.{List, [], ◌∷◌, ◌++◌, map, flat_map}
use Rattle.algebra.specs.Sum.{span}
use Rattle.verdicts.specs.Walking.{those}
use Rattle.page.specs.SheetLine.{all_digits, is_empty, amount}

-- every member has the property
unfoldable pub each : {A : Type 0} → (A → Bool) → List A → Bool
each has [] = true
each has (x ∷ xs) = has x && each has xs

-- ---- white space and comments
-- white space: blank, tab, LF, CR
abbrev pub is_white : ℕ → Bool
is_white b = eqb b 32 || eqb b 9 || eqb b 10 || eqb b 13

-- LF or CR
abbrev pub ends_comment : ℕ → Bool
ends_comment b = eqb b 10 || eqb b 13

-- what parts one thing from the next: a white space, or a comment, from `#` (byte 35) to before the next LF or CR, with that white space after it
pub data Piece : Type 0 where
  white : ℕ → Piece
  comment : List ℕ → ℕ → Piece

abbrev pub is_piece : Piece → Bool
is_piece (white b) = is_white b
is_piece (comment inside end) = each (λ b. not (ends_comment b)) inside && ends_comment end

abbrev pub piece_text : Piece → List ℕ
piece_text (white b) = b ∷ []
piece_text (comment inside end) = 35 ∷ inside ++ (end ∷ [])

-- white space and comments in any order, at least one white space among them
pub data Gap : Type 0 where
  last : Piece → Gap
  then : Piece → Gap → Gap

abbrev pub is_gap : Gap → Bool
is_gap (last p) = is_piece p
is_gap (then p g) = is_piece p && is_gap g

abbrev pub gap_text : Gap → List ℕ
gap_text (last p) = piece_text p
gap_text (then p g) = piece_text p ++ gap_text g

-- ---- sizes: digits only, of any count; leading zeros may stand; none is 0
abbrev pub is_size : List ℕ → Bool
is_size f = not (is_empty f) && all_digits f && not (eqb (amount 0 f) 0)

-- ---- digits `0` and `1`, bytes 48 and 49
abbrev pub is_bit : ℕ → Bool
is_bit b = eqb b 48 || eqb b 49

-- what may stand among the digits
abbrev pub is_among : ℕ → Bool
is_among b = is_white b || is_bit b

-- the bits that the digits among some bytes write
abbrev pub bits_of : List ℕ → List ℕ
bits_of bytes = map (λ b. b - 48) (those is_bit bytes)

-- what follows the last digit: nothing, or it begins with white space
abbrev pub is_after : List ℕ → Bool
is_after [] = true
is_after (b ∷ bs) = is_white b

-- ---- the parts of a plain PBM: `P1`, the width, the height, the white space that opens the digits (a comment may stand before it), the digits with
-- what stands among them, the last digit by itself, and what follows
pub record Parts : Type 0 where
  pub before_width : Gap
  pub width : List ℕ
  pub before_height : Gap
  pub height : List ℕ
  pub opening : Piece
  pub digits : List ℕ
  pub last_digit : ℕ
  pub after : List ℕ

unfoldable pub plain_text : Parts → List ℕ
plain_text t =
    80 ∷ 49 ∷ gap_text t.before_width ++ t.width ++ gap_text t.before_height ++ t.height ++ piece_text t.opening ++ t.digits ++ (t.last_digit ∷ t.after)

-- the bits that they write
unfoldable pub bits_in : Parts → List ℕ
bits_in t = bits_of (t.digits ++ (t.last_digit ∷ []))

-- each part is as it may be; white space may stand among the digits; there is a digit for each of width times height places
pub record ArePlain (t : Parts) : Type 0 where
  pub width_parted : is_gap t.before_width ≡ true
  pub width_written : is_size t.width ≡ true
  pub height_parted : is_gap t.before_height ≡ true
  pub height_written : is_size t.height ≡ true
  pub opened : is_piece t.opening ≡ true
  pub digits_alone : each is_among t.digits ≡ true
  pub ends_in_digit : is_bit t.last_digit ≡ true
  pub complete : length (bits_in t) ≡ amount 0 t.width * amount 0 t.height
  pub followed : is_after t.after ≡ true

-- ---- a picture: its bits row by row, the top row first
pub record Picture : Type 0 where
  pub width : ℕ
  pub height : ℕ
  pub bits : List ℕ

abbrev pub picture_of : Parts → Picture
picture_of t = record { width = amount 0 t.width; height = amount 0 t.height; bits = bits_in t }

-- the text is a plain PBM of the picture
pub record IsPlain (text : List ℕ) (picture : Picture) : Type 0 where
  pub parts : Parts
  pub plain : ArePlain parts
  pub made : text ≡ plain_text parts
  pub told : picture ≡ picture_of parts

-- ---- the mask, in raster order, row 0 the bottom row: in it column p of row q is the bit of column p in the row that is the q-th from below
unfoldable pub mask : ℕ → List ℕ → List ℕ
mask side bits = flat_map (λ q. map (λ p. get_or bits ((side - 1 - q) * side + p) 0) (span 0 side)) (span 0 side)
