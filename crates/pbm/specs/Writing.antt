-- Request #103, writing a raster of depth k as a plain PBM. A text is a list of bytes.
use Rattle.std.specs.Prelude.{Bool, ◌||◌, cond, ℕ, ◌+◌, ◌*◌, ◌-◌, ◌/◌, ◌%◌, ◌^◌, eqb, length, get_or, take}
use mathlib.Core.List.{List, [], ◌∷◌, ◌++◌, map, flat_map}
use Rattle.algebra.specs.Sum.{span}
use Rattle.page.specs.ListingText.{decimal}

-- coloured is 1, any other byte 0
abbrev pub bit : ℕ → ℕ
bit byte = cond (eqb byte 1) 1 0

-- ---- of a raster with `side` columns and as many rows
-- `P1` and LF; width, one space, height and LF. `P` is byte 80, `1` 49, a space 32, LF 10
unfoldable pub head_text : ℕ → List ℕ
head_text side = 80 ∷ 49 ∷ 10 ∷ decimal side ++ (32 ∷ decimal side ++ (10 ∷ []))

-- the digit of column p in row q: `0` is byte 48, `1` byte 49
abbrev pub digit : ℕ → List ℕ → ℕ → ℕ → ℕ
digit side raster q p = 48 + bit (get_or raster (q * side + p) 0)

-- one LF after every 70 digits of a row and at its end: it follows column p
abbrev pub ends_line : ℕ → ℕ → Bool
ends_line side p = eqb ((p + 1) % 70) 0 || eqb (p + 1) side

-- digits unparted
abbrev pub digit_text : ℕ → List ℕ → ℕ → ℕ → List ℕ
digit_text side raster q p = digit side raster q p ∷ cond (ends_line side p) (10 ∷ []) []

unfoldable pub row_text : ℕ → List ℕ → ℕ → List ℕ
row_text side raster q = flat_map (digit_text side raster q) (span 0 side)

-- the rows, the top row first: the n-th from above, from 0 on, is row side - 1 - n
unfoldable pub rows_text : ℕ → List ℕ → List ℕ
rows_text side raster = flat_map (λ n. row_text side raster (side - 1 - n)) (span 0 side)

-- ---- the text: a raster of depth k has 2^k columns and as many rows
unfoldable pub picture_text : ℕ → List ℕ → List ℕ
picture_text k raster = head_text (2 ^ k) ++ rows_text (2 ^ k) raster

-- the length that a place must have: each size, with 5 bytes about the two; for each row its digits, and an LF for each of its lines
unfoldable pub text_length : ℕ → ℕ
text_length k = 5 + 2 * length (decimal (2 ^ k)) + 2 ^ k * (2 ^ k + (2 ^ k + 69) / 70)

-- a raster's mask: a byte 1 or 0 for each of its 4^k bytes
unfoldable pub raster_mask : ℕ → List ℕ → List ℕ
raster_mask k raster = map bit (take (4 ^ k) raster)
