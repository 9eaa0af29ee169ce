-- Request #103, refusals: those of writing, and those of reading, of which the first condition that holds gives the number.
use Rattle.std.specs.Prelude.{Bool, true, false, ◌&&◌, ◌||◌, List, [], ◌∷◌, ℕ, ◌^◌, ltb, eqb, length, get_or}
use Rattle.algebra.specs.Sum.{◌⋯◌}
use Rattle.verdicts.specs.Walking.{those}
use Rattle.page.specs.SheetLine.{is_empty}
use Rattle.page.specs.Refusals.{Row, ◌when◌, first}
use Rattle.pbm.specs.Writing.{text_length}
use Rattle.pbm.specs.Reading.{Picture, IsPlain, mask}

-- ---- writing: a raster of r bytes, of depth k, on a place of n
unfoldable pub write_table : ℕ → ℕ → ℕ → List Row
write_table k r n =
    -- k > 7
    (3 when ltb 7 k)
    -- the raster has fewer than 4^k bytes, or the place is too short for the text
    ∷ (7 when ltb r (4 ^ k) || ltb n (text_length k))
    ∷ []

abbrev pub write_refusal : ℕ → ℕ → ℕ → ℕ
write_refusal k r n = first (write_table k r n)

-- ---- reading: what a text is
pub data Found : Type 0 where
  not_plain : Found
  plain : Picture → Found

abbrev pub Finds : List ℕ → Found → Type 0
Finds text not_plain = (P : Picture) → IsPlain text P → ⊥
Finds text (plain P) = IsPlain text P

abbrev pub is_not_plain : Found → Bool
is_not_plain not_plain = true
is_not_plain (plain P) = false

-- a text that is no plain PBM has no sizes and no mask: the rows after 12 do not hold of it, whatever their order
abbrev pub if_plain : Found → (Picture → Bool) → Bool
if_plain not_plain holds = false
if_plain (plain P) holds = holds P

-- 2^k columns and 2^k rows
abbrev pub has_side : ℕ → ℕ → ℕ → Bool
has_side w h k = eqb w (2 ^ k) && eqb h (2 ^ k)

-- the depths of a picture, up to 7: there is one, or none
unfoldable pub depths : Picture → List ℕ
depths P = those (has_side P.width P.height) (0 ⋯ 7)

abbrev pub picture_mask : Picture → List ℕ
picture_mask P = mask P.width P.bits

-- into a place of n bytes
unfoldable pub read_table : Found → ℕ → List Row
read_table f n =
    -- not a plain PBM, a size of 0, or data cut short
    (12 when is_not_plain f)
    -- sizes unequal or not a power of two up to 128
    ∷ (13 when if_plain f (λ P. is_empty (depths P)))
    -- a place shorter than the mask
    ∷ (7 when if_plain f (λ P. ltb n (length (picture_mask P))))
    ∷ []

abbrev pub read_refusal : Found → ℕ → ℕ
read_refusal f n = first (read_table f n)

-- ---- the side's depth, and the mask
abbrev pub depth_in : Found → ℕ
depth_in not_plain = 0
depth_in (plain P) = get_or (depths P) 0 0

abbrev pub mask_in : Found → List ℕ
mask_in not_plain = []
mask_in (plain P) = picture_mask P
