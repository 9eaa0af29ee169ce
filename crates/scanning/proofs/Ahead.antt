-- The digits of a text as bits, byte by byte: those ahead of each place, and none beyond the end.
use mathlib.Core.Path.{◌≡◌, refl, sym, ◌∙◌, ap}
use mathlib.Core.Bool.{Bool, true, false}
use mathlib.Core.List.{List, [], ◌∷◌, ◌++◌, map, map-append}
use Prim.Native.Nat.{ℕ, suc, ◌+◌, ◌-◌, ◌≤◌, ◌<◌}
use native.Mathlib.Decide.{dec_lt}
use native.Mathlib.Omega.{arith}
use lib.Dec.{eqb}
use lib.ListN.{length, get_or, drop, length-map, drop_of_length-le}
use borrow.Author.Tests.{eqb-true}
use Rattle.verdicts.specs.Walking.{those}
use Rattle.verdicts.proofs.Lists.{those-++, those_first}
use Rattle.page.proofs.Amounts.{rest_is}
use Rattle.pbm.specs.Reading.{is_bit}
use Rattle.scanning.specs.Steps.{bits_ahead, BitFound}

-- ---- a digit is byte 48 or 49
pub digit_from : (b : ℕ) → is_bit b ≡ true → 48 ≤ b
digit_from b h = by (eqb b 48) refl
  where
    by : (t : Bool) → eqb b 48 ≡ t → 48 ≤ b
    by true e = omega (arith, eqb-true b 48 e)
    by false e = omega (arith, eqb-true b 49 (rw e at h))

-- ---- one byte more: a digit is a bit, any other byte is none
pub ahead_more : (text : List ℕ) (i : ℕ) → i < length text → is_bit (get_or text i 0) ≡ true → bits_ahead (drop i text) ≡ (get_or text i 0 - 48) ∷ bits_ahead (drop (i + 1) text)
unfolding bits_ahead
ahead_more text i h e = ap bits_ahead (rest_is text i h) ∙ ap (map (λ b. b - 48)) (those_first is_bit (get_or text i 0) (drop (i + 1) text) true e)

pub ahead_same : (text : List ℕ) (i : ℕ) → i < length text → is_bit (get_or text i 0) ≡ false → bits_ahead (drop i text) ≡ bits_ahead (drop (i + 1) text)
unfolding bits_ahead
ahead_same text i h e = ap bits_ahead (rest_is text i h) ∙ ap (map (λ b. b - 48)) (those_first is_bit (get_or text i 0) (drop (i + 1) text) false e)

-- none beyond the end: where one is ahead, the text goes on
pub ahead_none : (text : List ℕ) (i : ℕ) → length text ≤ i → bits_ahead (drop i text) ≡ []
unfolding bits_ahead those
ahead_none text i h = ap bits_ahead (drop_of_length-le text h)

pub ahead_within : (text : List ℕ) (i : ℕ) → 0 < length (bits_ahead (drop i text)) → i < length text
ahead_within text i h = elim (dec_lt i (length text)) [
  | yes l ↦ l
  | no n ↦ let z : length (bits_ahead (drop i text)) ≡ 0 = ap length (ahead_none text i (omega arith)) in absurd (omega arith)
]

-- of two texts joined
pub ahead_++ : (xs ys : List ℕ) → bits_ahead (xs ++ ys) ≡ bits_ahead xs ++ bits_ahead ys
unfolding bits_ahead
ahead_++ xs ys = ap (map (λ b. b - 48)) (those-++ is_bit xs ys) ∙ map-append (λ b. b - 48) (those is_bit xs) (those is_bit ys)

-- there are no more of them than bytes
those_few : (has : ℕ → Bool) (xs : List ℕ) → length (those has xs) ≤ length xs
unfolding those
those_few has [] = omega arith
those_few has (x ∷ xs) = let h = those_few has xs in by (has x) refl h
  where
    by : (b : Bool) → has x ≡ b → length (those has xs) ≤ length xs → length (those has (x ∷ xs)) ≤ suc (length xs)
    by true e h = rw e (omega arith)
    by false e h = rw e (omega arith)

pub ahead_few : (text : List ℕ) → length (bits_ahead text) ≤ length text
unfolding bits_ahead
ahead_few text = rw (length-map (those is_bit text) (λ b. b - 48)) (those_few is_bit text)

-- ---- the search for the next digit: no digit was passed, and one is ahead
pub record Seeking (text : List ℕ) (at i : ℕ) : Type 0 where
  pub same : bits_ahead (drop at text) ≡ bits_ahead (drop i text)
  pub some : 0 < length (bits_ahead (drop i text))

module _ {text : List ℕ} {at : ℕ} where
  pub seeking_start : 0 < length (bits_ahead (drop at text)) → Seeking text at at
  seeking_start h = record { same = refl; some = h }

  pub seeking_within : {i : ℕ} → Seeking text at i → i < length text
  seeking_within {i} s = ahead_within text i s.some

  pub seeking_next : {i : ℕ} {r : Bool} → Seeking text at i → r ≡ is_bit (get_or text i 0) → r ≡ false → Seeking text at (i + 1)
  seeking_next {i} s e f = let p = ahead_same text i (seeking_within s) (sym e ∙ f) in record { same = s.same ∙ p; some = rw p at s.some }

  pub seeking_end : {i : ℕ} {r : Bool} → Seeking text at i → r ≡ is_bit (get_or text i 0) → r ≡ true → BitFound text at i
  seeking_end {i} s e t = record { digit = sym e ∙ t; ahead = s.same ∙ ahead_more text i (seeking_within s) (sym e ∙ t); within = seeking_within s }
