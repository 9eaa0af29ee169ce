-- The promises of the calls, as statements about an outcome: the answer r, and the place afterwards. That nothing else satisfies them is proofs/Promises.
use Rattle.std.specs.Prelude.{◌≡◌, List, ℕ, ◌≤◌, length, take}
use Rattle.page.specs.ListingText.{written_text}
use Rattle.pbm.specs.PictureText.{depicted_text}
use Rattle.reply.specs.Answers.{room, picture_room, fresh, fresh_picture, length_with, place_with}

-- a place with room for every listing, and one with room for every picture
abbrev pub PlacePromise : List ℕ → Type 0
PlacePromise r = r ≡ fresh

abbrev pub PicturePlacePromise : List ℕ → Type 0
PicturePlacePromise r = r ≡ fresh_picture

-- the length of a text that is written, and the place afterwards, every byte of it
abbrev pub Told : ℕ → List ℕ → List ℕ → ℕ → List ℕ → Type 0
Told room text old r now = (r ≡ length_with room text (length old)) × (now ≡ place_with room text old)

-- the listing of a sheet text, or the line of its refusal
abbrev pub AnswerPromise : List ℕ → List ℕ → ℕ → List ℕ → Type 0
AnswerPromise text old r now = Told room (written_text text) old r now

-- its picture, or the line of its refusal
abbrev pub DepictPromise : List ℕ → List ℕ → ℕ → List ℕ → Type 0
DepictPromise text old r now = Told picture_room (depicted_text text) old r now

-- no second outcome satisfies any of them
abbrev pub OnePlace : Type 0
OnePlace = (r t : List ℕ) → PlacePromise r → PlacePromise t → r ≡ t

abbrev pub OnePicturePlace : Type 0
OnePicturePlace = (r t : List ℕ) → PicturePlacePromise r → PicturePlacePromise t → r ≡ t

abbrev pub OneAnswer : Type 0
OneAnswer = (text old : List ℕ) (r t : ℕ) (now after : List ℕ) → AnswerPromise text old r now → AnswerPromise text old t after → (r ≡ t) × (now ≡ after)

abbrev pub OneDepiction : Type 0
OneDepiction = (text old : List ℕ) (r t : ℕ) (now after : List ℕ) → DepictPromise text old r now → DepictPromise text old t after → (r ≡ t) × (now ≡ after)

-- where there is room, the first r bytes of the place are the text
abbrev pub TextLeft : Type 0
TextLeft = (text old : List ℕ) (r : ℕ) (now : List ℕ) → AnswerPromise text old r now → room ≤ length old → take r now ≡ written_text text

abbrev pub PictureLeft : Type 0
PictureLeft = (text old : List ℕ) (r : ℕ) (now : List ℕ) → DepictPromise text old r now → picture_room ≤ length old → take r now ≡ depicted_text text
