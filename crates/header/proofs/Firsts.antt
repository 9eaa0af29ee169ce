-- The first byte of which a test holds: where it stands, what comes before it and what from it on.
use mathlib.Core.Path.{◌≡◌, refl, sym, ◌∙◌, ap}
use mathlib.Core.Bool.{Bool, true, false, not, cond}
use mathlib.Core.List.{List, [], ◌∷◌}
use Prim.Native.Nat.{ℕ, suc, ◌+◌, ◌-◌, ◌≤◌, ◌<◌}
use native.Mathlib.Omega.{arith}
use borrow.Author.Tests.{lt-ltb, le-ltb, ltb-true, ltb-false}
use lib.Dec.{ltb, leb-suc-suc}
use lib.ListN.{length, take, drop, length-drop, drop_of_length-le}
use lib.Seq.{drop-drop, take_all}
use Rattle.std.proofs.Common.{Option, None, Some}
use Rattle.std.specs.List.{position_or_len}
use Rattle.page.specs.SheetLine.{is_digit}
use Rattle.pbm.specs.Reading.{ends_comment}
use Rattle.pbm.specs.Refusals.{Found, not_plain}
use Rattle.pbm.specs.Steps.{leading, beyond, after_comment}
use Rattle.header.specs.Steps.{DigitsPassed, CommentEnds, CommentPassed}

-- what a slice from `at` on holds
pub all_left : (text : List ℕ) (at : ℕ) → take (length text - at) (drop at text) ≡ drop at text
all_left text at = take_all (length text - at) (drop at text) (omega (arith, length-drop at text))

-- ---- a place that is told is within, and where none is told the list was passed
abbrev pub told : ℕ → ℕ → Option ℕ
told n length = cond (ltb n length) (Some n) None

pub told_some : {r : Option ℕ} {n m l : ℕ} → r ≡ told n l → r ≡ Some m → (n ≡ m) × (n < l)
told_some {n = n} {m} {l} e s = by (ltb n l) refl (sym e ∙ s)
  where
    by : (b : Bool) → ltb n l ≡ b → cond b (Some n) None ≡ Some m → (n ≡ m) × (n < l)
    by true t f = (cc, ltb-true n l t)
    by false t f = absurd (cc)

pub told_none : {r : Option ℕ} {n l : ℕ} → r ≡ told n l → r ≡ None → l ≤ n
told_none {n = n} {l} e s = by (ltb n l) refl (sym e ∙ s)
  where
    by : (b : Bool) → ltb n l ≡ b → cond b (Some n) None ≡ None → l ≤ n
    by true t f = absurd (cc)
    by false t f = ltb-false n l t

-- ---- digits end at the first byte that is none
abbrev digits_end : List ℕ → ℕ
digits_end l = position_or_len (λ b. not (is_digit b)) l

leading_to : (l : List ℕ) → leading is_digit l ≡ take (digits_end l) l
unfolding leading
leading_to [] = refl
leading_to (b ∷ l) = by (is_digit b) (leading_to l)
  where
    by : (t : Bool) → leading is_digit l ≡ take (digits_end l) l → cond t (b ∷ leading is_digit l) [] ≡ take (cond (not (not t)) (1 + digits_end l) 0) (b ∷ l)
    by true e = let m : 1 + digits_end l ≡ suc (digits_end l) = omega arith in rw m (ap (λ r. b ∷ r) e)
    by false e = refl

beyond_from : (l : List ℕ) → beyond is_digit l ≡ drop (digits_end l) l
unfolding beyond
beyond_from [] = refl
beyond_from (b ∷ l) = by (is_digit b) (beyond_from l)
  where
    by : (t : Bool) → beyond is_digit l ≡ drop (digits_end l) l → cond t (beyond is_digit l) (b ∷ l) ≡ drop (cond (not (not t)) (1 + digits_end l) 0) (b ∷ l)
    by true e = let m : 1 + digits_end l ≡ suc (digits_end l) = omega arith in rw m e
    by false e = refl

module _ (text : List ℕ) (at : ℕ) {r : Option ℕ} (e : r ≡ told (position_or_len (λ b. not (is_digit b)) (drop at text)) (length (drop at text))) (h : at ≤ length text) where
  pub digits_some : {n : ℕ} → r ≡ Some n → DigitsPassed text at (at + n)
  digits_some {n} s =
      let t = told_some e s in let m : at + n - at ≡ n = omega arith in
      record {
        digits = rw m (leading_to (drop at text) ∙ ap (λ k. take k (drop at text)) t.0);
        rest = beyond_from (drop at text) ∙ ap (λ k. drop k (drop at text)) t.0 ∙ drop-drop n at text;
        further = omega arith;
        within = omega (arith, length-drop at text);
      }

  pub digits_none : r ≡ None → DigitsPassed text at (length text)
  digits_none s =
      let t = told_none e s in
      record {
        digits = leading_to (drop at text) ∙ take_all (digits_end (drop at text)) (drop at text) t ∙ sym (all_left text at);
        rest = beyond_from (drop at text) ∙ drop_of_length-le (drop at text) t ∙ sym (drop_of_length-le text (omega arith));
        further = h;
        within = omega arith;
      }

-- ---- a comment ends at the first byte that ends comments
comment_to : (l : List ℕ) (rest : List ℕ → Found) → after_comment l rest ≡ cond (ltb (position_or_len ends_comment l) (length l)) (rest (drop (position_or_len ends_comment l + 1) l)) not_plain
unfolding after_comment
comment_to [] rest = refl
comment_to (b ∷ l) rest = by (position_or_len ends_comment l) (ends_comment b) (comment_to l rest)
  where
    by : (n : ℕ) (t : Bool) → after_comment l rest ≡ cond (ltb n (length l)) (rest (drop (n + 1) l)) not_plain
        → cond t (rest l) (after_comment l rest) ≡ cond (ltb (cond (not t) (1 + n) 0) (suc (length l))) (rest (drop (cond (not t) (1 + n) 0 + 1) (b ∷ l))) not_plain
    by n true e = rw (lt-ltb 0 (suc (length l)) (omega arith))
    by n false e = let m : 1 + n ≡ suc n = omega arith in let k : suc n + 1 ≡ suc (n + 1) = omega arith in rw (m, k, leb-suc-suc (suc n) (length l)) e

module _ (text : List ℕ) (at : ℕ) {r : Option ℕ} (e : r ≡ told (position_or_len ends_comment (drop at text)) (length (drop at text))) where
  pub comment_some : at ≤ length text → {n : ℕ} → r ≡ Some n → CommentEnds text at (at + n)
  comment_some h {n} s =
      let t = told_some e s in let l = length-drop at text in
      record {
        step = λ rest. comment_to (drop at text) rest ∙ rw (lt-ltb (position_or_len ends_comment (drop at text)) (length (drop at text)) t.1, t.0, drop-drop (n + 1) at text) (let a : at + (n + 1) ≡ at + n + 1 = omega arith in ap (λ k. rest (drop k text)) a);
        further = omega arith;
        within = omega arith;
      }

  pub comment_none : r ≡ None → CommentPassed text at None
  comment_none s rest = comment_to (drop at text) rest ∙ rw (le-ltb (position_or_len ends_comment (drop at text)) (length (drop at text)) (told_none e s))
