-- Which texts are plain PBMs, and of which picture: what the scan finds is what the grammar says, so that a text is of one picture at most.
use mathlib.Core.Path.{◌≡◌, refl, sym, ◌∙◌, ap}
use mathlib.Core.Bool.{true, not, ◌&&◌}
use mathlib.Core.List.{List, [], ◌∷◌, ◌++◌, append_assoc}
use Prim.Native.Nat.{ℕ, ◌*◌, ◌≤◌}
use native.Mathlib.Nat as Nat
use native.Mathlib.Omega.{arith}
use lib.Dec.{eqb}
use lib.ListN.{length}
use borrow.Author.Tests.{eqb-true, eqb-false, not-true}
use Rattle.algebra.proofs.Choice.{and_left, and_right, cond_first}
use Rattle.page.specs.SheetLine.{all_digits, is_empty, amount}
use Rattle.pbm.specs.Reading.{is_size, piece_text, gap_text, is_after, Parts, plain_text, bits_in, ArePlain, Picture, picture_of, IsPlain}
use Rattle.pbm.specs.Refusals.{Found, not_plain, plain, Finds}
use Rattle.pbm.specs.Steps.{size_then, Bits, cut_short, complete, take_bits, found_in, found, after_opening, after_height, after_width}
use Rattle.pbm.specs.Facts.{OnePicture, FindsFound, OneFound}
use Rattle.pbm.proofs.Gaps.{piece_parts, gap_parts}
use Rattle.pbm.proofs.Sizes.{not_other, size_passed, Sized, size_found, opening_passed, Opened, opening_found}
use Rattle.pbm.proofs.Bits.{bits_taken, Taken, taken}

-- ---- a text of seven parts, as a scan meets them
regrouped : (a b c d e f g : List ℕ) → 80 ∷ 49 ∷ a ++ b ++ c ++ d ++ e ++ f ++ g ≡ 80 ∷ 49 ∷ (a ++ (b ++ (c ++ (d ++ (e ++ (f ++ g))))))
regrouped a b c d e f g = simp append_assoc

-- ---- a plain PBM is found: w columns and n rows
module _ (t : Parts) (h : ArePlain t) where
  abbrev w : ℕ
  w = amount 0 t.width

  abbrev n : ℕ
  n = amount 0 t.height

  bits_found : after_opening w n (t.digits ++ (t.last_digit ∷ t.after)) ≡ plain (picture_of t)
  unfolding bits_in
  bits_found =
      ap (λ m. found_in w n (take_bits m (t.digits ++ (t.last_digit ∷ t.after)))) (sym h.complete)
      ∙ ap (found_in w n) (bits_taken t.digits t.last_digit t.after h.digits_alone h.ends_in_digit)
      ∙ rw h.followed

  parts_found : found (plain_text t) ≡ plain (picture_of t)
  unfolding found plain_text
  parts_found =
      let bits = t.digits ++ (t.last_digit ∷ t.after) in let opened = piece_text t.opening ++ bits in let second = gap_text t.before_height ++ (t.height ++ opened) in
      ap found (regrouped (gap_text t.before_width) t.width (gap_text t.before_height) t.height (piece_text t.opening) t.digits (t.last_digit ∷ t.after))
      ∙ size_passed t.before_width t.width second after_width h.width_parted h.width_written (gap_parts t.before_height (t.height ++ opened) h.height_parted)
      ∙ size_passed t.before_height t.height opened (after_height w) h.height_parted h.height_written (piece_parts t.opening bits h.opened)
      ∙ opening_passed t.opening bits (after_opening w n) h.opened
      ∙ bits_found

pub plain_found : {text : List ℕ} {P : Picture} → IsPlain text P → found text ≡ plain P
plain_found p = ap found p.made ∙ parts_found p.parts p.plain ∙ ap plain (sym p.told)

-- ---- what is found is a plain PBM
-- its digits are complete, and nothing runs into the last one
record Ended (w h : ℕ) (t : Bits) (P : Picture) : Type 0 where
  bits : List ℕ
  after : List ℕ
  took : t ≡ complete bits after
  followed : is_after after ≡ true
  told : P ≡ record { width = w; height = h; bits = bits }

ended : (w h : ℕ) (t : Bits) {P : Picture} → found_in w h t ≡ plain P → Ended w h t P
ended w h cut_short e = absurd (not_other e)
ended w h (complete bits after) e =
    let (f, p) = cond_first (is_after after) e not_other in
    record { bits = bits; after = after; took = refl; followed = f; told = cc }

-- a size is not 0, so there is a digit
size_some : (f : List ℕ) → is_size f ≡ true → 1 ≤ amount 0 f
size_some f s = let n = eqb-false (amount 0 f) 0 (not-true _ (and_right (not (is_empty f) && all_digits f) _ s)) in omega arith

-- the parts that were found, put together again: a and b the sizes, o what opens the digits, z and t the digits
module _ {u : List ℕ} {P : Picture} (a : Sized u after_width P) (b : Sized a.after (after_height (amount 0 a.digits)) P)
    (o : Opened b.after (after_opening (amount 0 a.digits) (amount 0 b.digits)) P)
    (z : Ended (amount 0 a.digits) (amount 0 b.digits) (take_bits (amount 0 a.digits * amount 0 b.digits) o.after) P)
    (t : Taken (amount 0 a.digits * amount 0 b.digits) o.after z.bits z.after) where
  abbrev parts : Parts
  parts = record {
    before_width = a.gap;
    width = a.digits;
    before_height = b.gap;
    height = b.digits;
    opening = o.piece;
    digits = t.digits;
    last_digit = t.end;
    after = z.after;
  }

  together : IsPlain (80 ∷ 49 ∷ u) P
  unfolding plain_text bits_in
  together = record {
    parts = parts;
    plain = record {
      width_parted = a.parts;
      width_written = a.written;
      height_parted = b.parts;
      height_written = b.written;
      opened = o.good;
      digits_alone = t.among;
      ends_in_digit = t.ends;
      complete = sym (ap length t.told) ∙ t.long;
      followed = z.followed;
    };
    made =
        ap (λ v. 80 ∷ 49 ∷ v) (a.made ∙ ap (λ v. gap_text a.gap ++ (a.digits ++ v)) (b.made ∙ ap (λ v. gap_text b.gap ++ (b.digits ++ v)) (o.made ∙ ap (λ v. piece_text o.piece ++ v) t.made)))
        ∙ sym (regrouped (gap_text a.gap) a.digits (gap_text b.gap) b.digits (piece_text o.piece) t.digits (t.end ∷ z.after));
    told = z.told ∙ ap (λ bits. record { width = amount 0 a.digits; height = amount 0 b.digits; bits = bits }) t.told;
  }

-- the text after `P1`
sizes_plain : (u : List ℕ) (P : Picture) → size_then u after_width ≡ plain P → IsPlain (80 ∷ 49 ∷ u) P
sizes_plain u P e =
    let a = size_found u after_width e in
    let b = size_found a.after (after_height (amount 0 a.digits)) a.told in
    let o = opening_found b.after (after_opening (amount 0 a.digits) (amount 0 b.digits)) b.told in
    let z = ended (amount 0 a.digits) (amount 0 b.digits) (take_bits (amount 0 a.digits * amount 0 b.digits) o.after) o.told in
    let t = taken (amount 0 a.digits * amount 0 b.digits) o.after {bits = z.bits} {after = z.after} (Nat.mul-pos (size_some a.digits a.written) (size_some b.digits b.written)) z.took in
    together a b o z t

pub found_plain : (text : List ℕ) (P : Picture) → found text ≡ plain P → IsPlain text P
unfolding found
found_plain [] P e = absurd (not_other e)
found_plain (p ∷ []) P e = absurd (not_other e)
found_plain (p ∷ n ∷ u) P e =
    let (m, f) = cond_first (eqb p 80 && eqb n 49) e not_other in
    rw (eqb-true p 80 (and_left (eqb p 80) _ m), eqb-true n 49 (and_right (eqb p 80) _ m)) (sizes_plain u P f)

-- ---- the theorems
pub finds_found : FindsFound
finds_found text = by (found text) refl
  where
    by : (f : Found) → found text ≡ f → Finds text (found text)
    by not_plain e = rw e (λ P p. not_other (sym e ∙ plain_found p))
    by (plain P) e = rw e (found_plain text P e)

pub one_picture : OnePicture
one_picture text P Q p q = let e = plain_found p in let f = plain_found q in cc

pub one_found : OneFound
one_found text not_plain not_plain p q = refl
one_found text not_plain (plain Q) p q = absurd (p Q q)
one_found text (plain P) not_plain p q = absurd (q P p)
one_found text (plain P) (plain Q) p q = ap plain (one_picture text P Q p q)
