-- What the contracts of inner functions say of a text from some byte on. None of it is the request's: that it comes to the same is `FindsFound` of specs/Facts.
use Rattle.std.specs.Prelude.{Bool, false, not, ◌&&◌, ◌||◌, cond, List, [], ◌∷◌, ℕ, zero, suc, ◌*◌, ◌-◌, eqb, drop}
use Rattle.page.specs.SheetLine.{is_digit, is_empty, amount}
use Rattle.pbm.specs.Reading.{is_white, ends_comment, is_bit, is_after}
use Rattle.pbm.specs.Refusals.{Found, not_plain, plain}

-- ---- the bytes from the first on that have a property, and those from the first that has not
unfoldable pub leading : (ℕ → Bool) → List ℕ → List ℕ
leading has [] = []
leading has (b ∷ bs) = cond (has b) (b ∷ leading has bs) []

unfoldable pub beyond : (ℕ → Bool) → List ℕ → List ℕ
beyond has [] = []
beyond has (b ∷ bs) = cond (has b) (beyond has bs) (b ∷ bs)

-- ---- a gap: whether a byte belongs to it, and whether the byte after it stands in a comment, by whether the byte itself does
abbrev pub in_gap : Bool → ℕ → Bool
in_gap inside b = inside || is_white b || eqb b 35

abbrev pub goes_on : Bool → ℕ → Bool
goes_on inside b = cond inside (not (ends_comment b)) (eqb b 35)

-- what follows the gap
unfoldable pub after_gap : Bool → List ℕ → List ℕ
after_gap inside [] = []
after_gap inside (b ∷ bs) = cond (in_gap inside b) (after_gap (goes_on inside b) bs) (b ∷ bs)

-- it begins with white space or a comment
abbrev pub is_parted : List ℕ → Bool
is_parted [] = false
is_parted (b ∷ bs) = in_gap false b

-- ---- a size after a gap: its digits, and what is done with their number and the rest
abbrev pub size_then : List ℕ → (ℕ → List ℕ → Found) → Found
size_then text rest =
    let here = after_gap false text in let digits = leading is_digit here in
    cond (is_parted text && not (is_empty digits) && not (eqb (amount 0 digits) 0)) (rest (amount 0 digits) (beyond is_digit here)) not_plain

-- ---- the white space that opens the digits, a comment before it or none
unfoldable pub after_comment : List ℕ → (List ℕ → Found) → Found
after_comment [] rest = not_plain
after_comment (b ∷ bs) rest = cond (ends_comment b) (rest bs) (after_comment bs rest)

abbrev pub opening_then : List ℕ → (List ℕ → Found) → Found
opening_then [] rest = not_plain
opening_then (b ∷ bs) rest = cond (is_white b) (rest bs) (cond (eqb b 35) (after_comment bs rest) not_plain)

-- ---- n digits, white space among them, and what follows the last
pub data Bits : Type 0 where
  cut_short : Bits
  complete : List ℕ → List ℕ → Bits

abbrev pub with_bit : ℕ → Bits → Bits
with_bit b cut_short = cut_short
with_bit b (complete bits rest) = complete (b ∷ bits) rest

unfoldable pub take_bits : ℕ → List ℕ → Bits
take_bits zero text = complete [] text
take_bits (suc n) [] = cut_short
take_bits (suc n) (b ∷ bs) = cond (is_bit b) (with_bit (b - 48) (take_bits n bs)) (cond (is_white b) (take_bits (suc n) bs) cut_short)

abbrev pub found_in : ℕ → ℕ → Bits → Found
found_in w h cut_short = not_plain
found_in w h (complete bits rest) = cond (is_after rest) (plain (record { width = w; height = h; bits = bits })) not_plain

-- ---- the whole text: `P1`, and what follows each thing
abbrev pub is_magic : List ℕ → Bool
is_magic [] = false
is_magic (p ∷ []) = false
is_magic (p ∷ n ∷ text) = eqb p 80 && eqb n 49

abbrev pub after_opening : ℕ → ℕ → List ℕ → Found
after_opening w h text = found_in w h (take_bits (w * h) text)

abbrev pub after_height : ℕ → ℕ → List ℕ → Found
after_height w h text = opening_then text (after_opening w h)

abbrev pub after_width : ℕ → List ℕ → Found
after_width w text = size_then text (after_height w)

unfoldable pub found : List ℕ → Found
found text = cond (is_magic text) (size_then (drop 2 text) after_width) not_plain
