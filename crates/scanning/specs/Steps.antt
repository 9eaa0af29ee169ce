-- What the contracts of inner functions say. None of it is the request's.
use Rattle.std.specs.Prelude.{◌≡◌, Bool, true, cond, List, [], ◌∷◌, ℕ, ◌+◌, ◌*◌, ◌-◌, ◌^◌, ◌≤◌, ◌<◌, min, length, get_or, take, drop, Option, None, Some}
use Rattle.std.proofs.lemmas.List.Edits.{sets}
use Rattle.algebra.specs.Sum.{◌⋯◌}
use Rattle.verdicts.specs.Walking.{those}
use Rattle.pbm.specs.Reading.{is_bit, bits_of, Picture, mask}
use Rattle.pbm.specs.Refusals.{not_plain, plain, has_side}
use Rattle.pbm.specs.Steps.{cut_short, complete, take_bits, found_in, found}
use Rattle.header.specs.declared.Head.{Head}

-- ---- the digits of a text as bits, whatever stands among them
unfoldable pub bits_ahead : List ℕ → List ℕ
bits_ahead text = bits_of text

-- ---- `depth_of`
abbrev pub first_of : List ℕ → Option ℕ
first_of [] = None
first_of (k ∷ ks) = Some k

abbrev pub depth_at : ℕ → ℕ → Option ℕ
depth_at w h = first_of (those (has_side w h) (0 ⋯ 7))

-- ---- `take_data`
pub record DataEnds (text : List ℕ) (at count r : ℕ) : Type 0 where
  pub bits : List ℕ
  pub step : take_bits count (drop at text) ≡ complete bits (drop r text)
  pub within : r ≤ length text

abbrev pub DataTaken : List ℕ → ℕ → ℕ → Option ℕ → Type 0
DataTaken text at count None = take_bits count (drop at text) ≡ cut_short
DataTaken text at count (Some r) = DataEnds text at count r

-- ---- `complete`: of a picture w by h, of whose sizes no more than 2^63 is told
abbrev pub picture_at : List ℕ → ℕ → ℕ → ℕ → Picture
picture_at text at w h = record { width = w; height = h; bits = take (w * h) (bits_ahead (drop at text)) }

pub record DataComplete (text : List ℕ) (at width height : ℕ) (r : Bool) : Type 0 where
  pub step : (w h : ℕ) → width ≡ min w (2 ^ 63) → height ≡ min h (2 ^ 63) → found_in w h (take_bits (w * h) (drop at text)) ≡ cond r (plain (picture_at text at w h)) not_plain
  pub many : (w h : ℕ) → width ≡ min w (2 ^ 63) → height ≡ min h (2 ^ 63) → r ≡ true → w * h ≤ length (bits_ahead (drop at text))

-- ---- `next_bit`, `put_row`, `put_rows`
pub record BitFound (text : List ℕ) (at r : ℕ) : Type 0 where
  pub digit : is_bit (get_or text r 0) ≡ true
  pub ahead : bits_ahead (drop at text) ≡ (get_or text r 0 - 48) ∷ bits_ahead (drop (r + 1) text)
  pub within : r < length text

pub record RowTaken (text : List ℕ) (at from side : ℕ) (old now : List ℕ) (r : ℕ) : Type 0 where
  pub put : now ≡ sets old from (take side (bits_ahead (drop at text)))
  pub ahead : bits_ahead (drop r text) ≡ drop side (bits_ahead (drop at text))

abbrev pub RowsTaken : List ℕ → ℕ → ℕ → List ℕ → List ℕ → Type 0
RowsTaken text at side old now = now ≡ sets old 0 (mask side (bits_ahead (drop at text)))

-- ---- `picture_in`: the sizes as they are, and the bits
pub record PictureRead (text : List ℕ) (r : Head) : Type 0 where
  pub wide : ℕ
  pub high : ℕ
  pub step : found text ≡ plain (picture_at text r.next wide high)
  pub many : wide * high ≤ length (bits_ahead (drop r.next text))
  pub width_told : r.width ≡ min wide (2 ^ 63)
  pub height_told : r.height ≡ min high (2 ^ 63)

abbrev pub PictureFound : List ℕ → Option Head → Type 0
PictureFound text None = found text ≡ not_plain
PictureFound text (Some r) = PictureRead text r
