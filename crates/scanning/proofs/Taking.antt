-- The digits of a plain PBM, taken byte by byte: those passed, and those to come; what a scan that is complete took; and a scan for more digits than the text has bytes.
use mathlib.Core.Path.{◌≡◌, refl, sym, ◌∙◌, ap}
use mathlib.Core.Bool.{Bool, true, false, ◌||◌, cond, false≢true}
use mathlib.Core.List.{List, [], ◌∷◌, ◌++◌, append_assoc}
use Prim.Native.Nat.{ℕ, zero, suc, ◌+◌, ◌-◌, ◌≤◌, ◌<◌, min}
use native.Mathlib.Nat as Nat
use native.Mathlib.Decide.{dec_le}
use native.Mathlib.Omega.{arith}
use lib.ListN.{length, get_or, take, drop, length-append}
use lib.Seq.{take_at, drop-length}
use Rattle.std.proofs.Common.{None}
use Rattle.page.proofs.Amounts.{rest_is}
use Rattle.pbm.specs.Reading.{is_bit, is_white}
use Rattle.pbm.specs.Steps.{Bits, cut_short, complete, with_bit, take_bits}
use Rattle.pbm.proofs.Bits.{taken}
use Rattle.scanning.specs.Steps.{bits_ahead, DataEnds, DataTaken}
use Rattle.scanning.proofs.Ahead.{ahead_++, ahead_few}

-- ---- bits put before those that a scan takes
abbrev pub with_bits : List ℕ → Bits → Bits
with_bits [] t = t
with_bits (b ∷ bs) t = with_bit b (with_bits bs t)

bits_short : (bs : List ℕ) → with_bits bs cut_short ≡ cut_short
bits_short [] = refl
bits_short (b ∷ bs) = ap (with_bit b) (bits_short bs)

bits_whole : (bs : List ℕ) (rest : List ℕ) → with_bits bs (complete [] rest) ≡ complete bs rest
bits_whole [] rest = refl
bits_whole (b ∷ bs) rest = ap (with_bit b) (bits_whole bs rest)

bits_next : (bs : List ℕ) (b : ℕ) (t : Bits) → with_bits bs (with_bit b t) ≡ with_bits (bs ++ (b ∷ [])) t
bits_next [] b t = refl
bits_next (c ∷ bs) b t = ap (with_bit c) (bits_next bs b t)

-- ---- one byte: the end, a digit, white space, and what may not stand
take_none : (left : ℕ) → 0 < left → take_bits left [] ≡ cut_short
unfolding take_bits
take_none zero h = absurd (omega arith)
take_none (suc n) h = refl

take_digit : (left b : ℕ) (u : List ℕ) → 0 < left → is_bit b ≡ true → take_bits left (b ∷ u) ≡ with_bit (b - 48) (take_bits (left - 1) u)
unfolding take_bits
take_digit zero b u h e = absurd (omega arith)
take_digit (suc n) b u h e = let z : suc n - 1 ≡ n = omega arith in rw (e, z)

take_white : (left b : ℕ) (u : List ℕ) → 0 < left → is_bit b ≡ false → is_white b ≡ true → take_bits left (b ∷ u) ≡ take_bits left u
unfolding take_bits
take_white zero b u h e w = absurd (omega arith)
take_white (suc n) b u h e w = rw (e, w)

take_other : (left b : ℕ) (u : List ℕ) → 0 < left → (is_bit b || is_white b) ≡ false → take_bits left (b ∷ u) ≡ cut_short
unfolding take_bits
take_other zero b u h e = absurd (omega arith)
take_other (suc n) b u h e = by (is_bit b) refl (is_white b) refl
  where
    by : (t : Bool) → is_bit b ≡ t → (w : Bool) → is_white b ≡ w → take_bits (suc n) (b ∷ u) ≡ cut_short
    by true f w g = let z : (is_bit b || is_white b) ≡ true = rw f in absurd (false≢true (sym e ∙ z))
    by false f true g = let z : (is_bit b || is_white b) ≡ true = rw (f, g) in absurd (false≢true (sym e ∙ z))
    by false f false g = rw (f, g)

-- a byte is one digit at most
pub one_at_most : (b : Bool) {m : ℕ} → m ≡ cond b 1 0 → m ≤ 1
one_at_most true e = omega arith
one_at_most false e = omega arith

-- ---- before the byte at i: the bits of the digits passed, and so many to come
pub record Taking (text : List ℕ) (at count left i : ℕ) : Type 0 where
  pub within : i ≤ length text
  pub passed : List ℕ
  pub step : take_bits count (drop at text) ≡ with_bits passed (take_bits left (drop i text))

module _ {text : List ℕ} {at count : ℕ} where
  pub taking_start : at ≤ length text → Taking text at count count at
  taking_start h = record { within = h; passed = []; step = refl }

  -- too few: the text ends, or a byte stands there that may not
  taking_short : {left i : ℕ} → Taking text at count left i → take_bits left (drop i text) ≡ cut_short → DataTaken text at count None
  taking_short t e = t.step ∙ ap (with_bits t.passed) e ∙ bits_short t.passed

  pub taking_none : {left i : ℕ} → Taking text at count left i → 0 < left → i ≡ length text → DataTaken text at count None
  taking_none {left} {i} t h e = taking_short t (ap (take_bits left) (ap (λ m. drop m text) e ∙ drop-length text) ∙ take_none left h)

  pub taking_other : {left i : ℕ} → Taking text at count left i → 0 < left → i < length text → {b : Bool} → b ≡ (is_bit (get_or text i 0) || is_white (get_or text i 0)) → b ≡ false → DataTaken text at count None
  taking_other {left} {i} t h l e f = taking_short t (ap (take_bits left) (rest_is text i l) ∙ take_other left (get_or text i 0) (drop (i + 1) text) h (sym e ∙ f))

  -- one byte more, a digit or white space
  pub taking_next : {left i m : ℕ} → Taking text at count left i → 0 < left → i < length text → {b : Bool} → b ≡ (is_bit (get_or text i 0) || is_white (get_or text i 0)) → b ≡ true
      → m ≡ cond (is_bit (get_or text i 0)) 1 0 → Taking text at count (left - m) (i + 1)
  taking_next {left} {i} {m} t h l {b} e f g = by (is_bit (get_or text i 0)) refl
    where
      by : (d : Bool) → is_bit (get_or text i 0) ≡ d → Taking text at count (left - m) (i + 1)
      by true d =
          let one : m ≡ 1 = g ∙ ap (λ z. cond z 1 0) d in
          record {
            within = omega arith;
            passed = t.passed ++ ((get_or text i 0 - 48) ∷ []);
            step = t.step
                ∙ ap (with_bits t.passed) (ap (take_bits left) (rest_is text i l) ∙ take_digit left (get_or text i 0) (drop (i + 1) text) h d)
                ∙ bits_next t.passed (get_or text i 0 - 48) (take_bits (left - 1) (drop (i + 1) text))
                ∙ ap (λ n. with_bits (t.passed ++ ((get_or text i 0 - 48) ∷ [])) (take_bits (left - n) (drop (i + 1) text))) (sym one);
          }
      by false d =
          let none : m ≡ 0 = g ∙ ap (λ z. cond z 1 0) d in
          let white : is_white (get_or text i 0) ≡ true = sym (ap (λ z. z || is_white (get_or text i 0)) d) ∙ sym e ∙ f in
          let same : left ≡ left - m = omega arith in
          record {
            within = omega arith;
            passed = t.passed;
            step = t.step
                ∙ ap (with_bits t.passed) (ap (take_bits left) (rest_is text i l) ∙ take_white left (get_or text i 0) (drop (i + 1) text) h d white)
                ∙ ap (λ n. with_bits t.passed (take_bits n (drop (i + 1) text))) same;
          }

  -- none to come: all are taken
  pub taking_end : {left i : ℕ} → Taking text at count left i → left ≡ 0 → {r : ℕ} → r ≡ i → DataEnds text at count r
  unfolding take_bits
  taking_end {left} {i} t z n = record {
    bits = t.passed;
    step = t.step ∙ ap (λ m. with_bits t.passed (take_bits m (drop i text))) z ∙ bits_whole t.passed (drop i text) ∙ ap (λ m. complete t.passed (drop m text)) (sym n);
    within = rw n t.within;
  }

-- ---- a scan that is complete took the first bits ahead, and there are so many
pub record Whole (n : ℕ) (text bits : List ℕ) : Type 0 where
  pub first : bits ≡ take n (bits_ahead text)
  pub many : n ≤ length (bits_ahead text)

pub whole : (n : ℕ) (text : List ℕ) {bits rest : List ℕ} → take_bits n text ≡ complete bits rest → Whole n text bits
unfolding take_bits bits_ahead
whole zero text e = record { first = cc; many = omega arith }
whole (suc n) text {bits} {rest} e =
    let t = taken (suc n) text (omega arith) e in
    let all : bits_ahead text ≡ bits ++ bits_ahead rest =
    ap bits_ahead (t.made ∙ sym (append_assoc t.digits (t.end ∷ []) rest)) ∙ ahead_++ (t.digits ++ (t.end ∷ [])) rest ∙ ap (λ l. l ++ bits_ahead rest) (sym t.told) in
    record {
      first = sym (ap (take (suc n)) all ∙ take_at bits (bits_ahead rest) (suc n) t.long);
      many = omega (arith, t.long, ap length all, length-append bits (bits_ahead rest));
    }

-- so for more digits than there are bytes it is cut short
pub beyond : (n : ℕ) (text : List ℕ) → length text < n → take_bits n text ≡ cut_short
beyond n text h = by (take_bits n text) refl
  where
    by : (t : Bits) → take_bits n text ≡ t → take_bits n text ≡ cut_short
    by cut_short e = e
    by (complete bits rest) e = let w = whole n text e in absurd (omega (arith, w.many, ahead_few text))

-- and how many more it is does not matter
pub capped : (C n : ℕ) (text : List ℕ) → length text < C → take_bits (min n C) text ≡ take_bits n text
capped C n text h = elim (dec_le n C) [
  | yes l ↦ ap (λ m. take_bits m text) (Nat.min-eq_left l)
  | no g ↦ let m : length text < min n C = omega arith in beyond (min n C) text m ∙ sym (beyond n text (omega arith))
]
