-- The promises of the calls: how each is kept, that nothing else keeps it, and that the bytes left are the text.
use mathlib.Core.Path.{◌≡◌, refl, sym, ◌∙◌, ap}
use mathlib.Core.Bool.{true, false}
use mathlib.Core.List.{List, ◌++◌}
use Prim.Native.Nat.{ℕ, ◌≤◌, ◌<◌}
use native.Mathlib.Omega.{arith}
use borrow.Author.Tests.{lt-ltb, le-ltb}
use lib.Dec.{ltb}
use lib.ListN.{length, take, drop, replicate, length-append, length-replicate}
use lib.Seq.{take_at}
use Rattle.page.specs.ListingText.{written_text}
use Rattle.pbm.specs.PictureText.{depicted_text}
use Rattle.writing.specs.Steps.{Put}
use Rattle.writing.proofs.Puts.{put_over}
use Rattle.reply.specs.Answers.{room, picture_room, fresh, fresh_picture, length_with, place_with}
use Rattle.reply.specs.Promises.{PlacePromise, PicturePlacePromise, Told, AnswerPromise, DepictPromise, OnePlace, OnePicturePlace, OneAnswer, OneDepiction, TextLeft, PictureLeft}

-- ---- any text on a place, with room or without
module _ (room : ℕ) (text old : List ℕ) where
  pub no_room : length old < room → Told room text old 0 old
  unfolding length_with place_with
  no_room h = let l : ltb (length old) room ≡ true = lt-ltb (length old) room h in (rw l, rw l)

  module _ (h : room ≤ length old) where
    there : ltb (length old) room ≡ false
    there = le-ltb (length old) room h

    pub written : {now : List ℕ} {r : ℕ} → Put 0 text old now r → Told room text old r now
    unfolding length_with place_with
    written p = let q = put_over p in (q.0 ∙ rw there, q.1 ∙ rw there)

    found : {now : List ℕ} {r : ℕ} → Told room text old r now → (r ≡ length text) × (now ≡ text ++ drop (length text) old)
    unfolding length_with place_with
    found p = (p.0 ∙ rw there, p.1 ∙ rw there)

    left : {now : List ℕ} {r : ℕ} → Told room text old r now → take r now ≡ text
    left {now} p =
        let q = found p in ap (λ n. take n now) q.0 ∙ ap (take (length text)) q.1 ∙ take_at text (drop (length text) old) (length text) refl

    -- what is written lies within the place
    lies_within : {now : List ℕ} {r : ℕ} → Told room text old r now → r ≤ length now
    lies_within p = let q = found p in let a = length-append text (drop (length text) old) in let b = ap length q.1 in let c = q.0 in omega (arith, a, b, c)

one_told : (room : ℕ) (text old : List ℕ) {r t : ℕ} {now after : List ℕ} → Told room text old r now → Told room text old t after → (r ≡ t) × (now ≡ after)
one_told room text old p q = (p.0 ∙ sym q.0, p.1 ∙ sym q.1)

-- ---- no second outcome
pub one_place : OnePlace
one_place r t p q = p ∙ sym q

pub one_picture_place : OnePicturePlace
one_picture_place r t p q = p ∙ sym q

pub one_answer : OneAnswer
one_answer text old r t now after p q = one_told room (written_text text) old p q

pub one_depiction : OneDepiction
one_depiction text old r t now after p q = one_told picture_room (depicted_text text) old p q

-- ---- the text at the start of the place
pub text_left : TextLeft
text_left text old r now p h = left room (written_text text) old h p

pub picture_left : PictureLeft
picture_left text old r now p h = left picture_room (depicted_text text) old h p

-- ---- what is written on a place of zeros that has the room lies within it
zeros_enough : {n : ℕ} {old : List ℕ} → old ≡ replicate n 0 → n ≤ length old
zeros_enough {n} p = let e = ap length p in let m = length-replicate {A = ℕ} n 0 in omega (arith, e, m)

pub lies_in_fresh : (text : List ℕ) {old : List ℕ} {r : ℕ} {now : List ℕ} → PlacePromise old → AnswerPromise text old r now → r ≤ length now
unfolding fresh
lies_in_fresh text {old} p q = lies_within room (written_text text) old (zeros_enough p) q

pub lies_in_picture : (text : List ℕ) {old : List ℕ} {r : ℕ} {now : List ℕ} → PicturePlacePromise old → DepictPromise text old r now → r ≤ length now
unfolding fresh_picture
lies_in_picture text {old} p q = lies_within picture_room (depicted_text text) old (zeros_enough p) q
