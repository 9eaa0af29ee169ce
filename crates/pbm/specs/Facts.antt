-- What is true of plain PBMs, as statements. That they hold is proofs/Finding, Lengths, ShortLines and Returning.
use Rattle.std.specs.Prelude.{◌≡◌, true, ◌&&◌, List, [], ◌∷◌, ℕ, ◌^◌, ◌≤◌, leb, length}
use Rattle.page.specs.SheetLine.{lines}
use Rattle.pbm.specs.Writing.{picture_text, text_length, raster_mask}
use Rattle.pbm.specs.Reading.{each, Picture, IsPlain}
use Rattle.pbm.specs.Refusals.{Found, Finds, depths, picture_mask}
use Rattle.pbm.specs.Steps.{found}

-- ---- reading
-- a text is a plain PBM of one picture at most
abbrev pub OnePicture : Type 0
OnePicture = (text : List ℕ) (P Q : Picture) → IsPlain text P → IsPlain text Q → P ≡ Q

-- and of every text it is decided which one, or that it is none
abbrev pub FindsFound : Type 0
FindsFound = (text : List ℕ) → Finds text (found text)

abbrev pub OneFound : Type 0
OneFound = (text : List ℕ) (f g : Found) → Finds text f → Finds text g → f ≡ g

-- ---- writing
-- the text is as long as 7 asks
abbrev pub TextLong : Type 0
TextLong = (k : ℕ) (raster : List ℕ) → length (picture_text k raster) ≡ text_length k

-- no line of it is longer than 70, and each is ended
abbrev pub NoLongLine : Type 0
NoLongLine = (k : ℕ) (raster : List ℕ) → k ≤ 7 → each (λ l. leb (length l.bytes) 70 && l.ended) (lines (picture_text k raster)) ≡ true

-- ---- writing then reading
-- what is written is the plain PBM of a picture of that depth, whose mask is the raster's
pub record Returned (k : ℕ) (raster : List ℕ) : Type 0 where
  pub picture : Picture
  pub plain : IsPlain (picture_text k raster) picture
  pub deep : depths picture ≡ k ∷ []
  pub same : picture_mask picture ≡ raster_mask k raster

abbrev pub WrittenReturns : Type 0
WrittenReturns = (k : ℕ) (raster : List ℕ) → k ≤ 7 → 4 ^ k ≤ length raster → Returned k raster
