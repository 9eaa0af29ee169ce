-- The digits `0` and `1`, white space among them: a scan for as many as there are takes them all, and what it took is digits, the last one at the end.
use mathlib.Core.Path.{◌≡◌, refl, sym, ◌∙◌, ap, subst₂}
use mathlib.Core.Bool.{Bool, true, false, false≢true}
use mathlib.Core.List.{List, [], ◌∷◌, ◌++◌}
use Prim.Native.Nat.{ℕ, zero, suc, ◌-◌, ◌≤◌}
use native.Mathlib.Omega.{arith}
use lib.Dec.{eqb}
use lib.ListN.{length}
use borrow.Author.Tests.{eqb-true}
use Rattle.algebra.proofs.Choice.{and_left, and_right}
use Rattle.verdicts.specs.Walking.{those}
use Rattle.pbm.specs.Reading.{each, is_white, is_bit, is_among, bits_of}
use Rattle.pbm.specs.Steps.{Bits, cut_short, complete, with_bit, take_bits}

-- ---- bytes: no digit is white space
bit_stands : (b : ℕ) → is_bit b ≡ true → is_white b ≡ false
bit_stands b h = by (eqb b 48) refl
  where
    by : (t : Bool) → eqb b 48 ≡ t → is_white b ≡ false
    by true e = rw (eqb-true b 48 e)
    by false e = rw (eqb-true b 49 (rw e at h))

white_stands : (b : ℕ) → is_among b ≡ true → is_bit b ≡ false → is_white b ≡ true
white_stands b h e = by (is_white b) refl
  where
    by : (t : Bool) → is_white b ≡ t → is_white b ≡ true
    by true f = f
    by false f = absurd (false≢true (rw (f, e) at h))

-- ---- what a text writes, by its first byte
bits_more : (b : ℕ) (u : List ℕ) → is_bit b ≡ true → bits_of (b ∷ u) ≡ (b - 48) ∷ bits_of u
unfolding those
bits_more b u e = rw e

bits_same : (b : ℕ) (u : List ℕ) → is_bit b ≡ false → bits_of (b ∷ u) ≡ bits_of u
unfolding those
bits_same b u e = rw e

-- ---- a scan takes a digit, and passes white space
take_more : (n b : ℕ) (u : List ℕ) → is_bit b ≡ true → take_bits (suc n) (b ∷ u) ≡ with_bit (b - 48) (take_bits n u)
unfolding take_bits
take_more n b u e = rw e

take_same : (n b : ℕ) (u : List ℕ) → 1 ≤ n → is_bit b ≡ false → is_white b ≡ true → take_bits n (b ∷ u) ≡ take_bits n u
unfolding take_bits
take_same zero b u h e w = absurd (omega arith)
take_same (suc n) b u h e w = rw (e, w)

-- there is one at least, the last
some_bit : (digits : List ℕ) (end : ℕ) → is_bit end ≡ true → 1 ≤ length (bits_of (digits ++ (end ∷ [])))
some_bit [] end e = rw (bits_more end [] e) (omega arith)
some_bit (b ∷ digits) end e = by (is_bit b) refl (some_bit digits end e)
  where
    by : (t : Bool) → is_bit b ≡ t → 1 ≤ length (bits_of (digits ++ (end ∷ []))) → 1 ≤ length (bits_of (b ∷ digits ++ (end ∷ [])))
    by true f i = rw (bits_more b (digits ++ (end ∷ [])) f) (omega arith)
    by false f i = rw (bits_same b (digits ++ (end ∷ [])) f) i

-- ---- all of them are taken: u writes the bits of w, and after stands behind them
one_more : (b : ℕ) (w u after : List ℕ) → is_among b ≡ true → 1 ≤ length (bits_of w) → take_bits (length (bits_of w)) u ≡ complete (bits_of w) after
    → take_bits (length (bits_of (b ∷ w))) (b ∷ u) ≡ complete (bits_of (b ∷ w)) after
one_more b w u after h l i = by (is_bit b) refl
  where
    by : (t : Bool) → is_bit b ≡ t → take_bits (length (bits_of (b ∷ w))) (b ∷ u) ≡ complete (bits_of (b ∷ w)) after
    by true f = rw (bits_more b w f) (take_more (length (bits_of w)) b u f ∙ ap (with_bit (b - 48)) i)
    by false f = rw (bits_same b w f) (take_same (length (bits_of w)) b u l f (white_stands b h f) ∙ i)

pub bits_taken : (digits : List ℕ) (end : ℕ) (after : List ℕ) → each is_among digits ≡ true → is_bit end ≡ true
    → take_bits (length (bits_of (digits ++ (end ∷ [])))) (digits ++ (end ∷ after)) ≡ complete (bits_of (digits ++ (end ∷ []))) after
unfolding each take_bits those
bits_taken [] end after h e = rw (bits_more end [] e) (take_more 0 end after e)
bits_taken (b ∷ digits) end after h e =
    one_more b (digits ++ (end ∷ [])) (digits ++ (end ∷ after)) after (and_left (is_among b) _ h) (some_bit digits end e) (bits_taken digits end after (and_right (is_among b) _ h) e)

-- ---- what was taken, where it is not nothing, is digits with white space among them, and a digit at the end
pub record Taken (n : ℕ) (text bits after : List ℕ) : Type 0 where
  pub digits : List ℕ
  pub end : ℕ
  pub among : each is_among digits ≡ true
  pub ends : is_bit end ≡ true
  pub made : text ≡ digits ++ (end ∷ after)
  pub told : bits ≡ bits_of (digits ++ (end ∷ []))
  pub long : length bits ≡ n

-- a byte before what was taken, and the bit that it writes, if it writes one
bit_before : {n : ℕ} (b : ℕ) {u bits after : List ℕ} → is_bit b ≡ true → Taken n u bits after → Taken (suc n) (b ∷ u) ((b - 48) ∷ bits) after
unfolding each
bit_before b e t = record {
  digits = b ∷ t.digits;
  end = t.end;
  among = rw (bit_stands b e, e) t.among;
  ends = t.ends;
  made = ap (λ v. b ∷ v) t.made;
  told = ap (λ v. (b - 48) ∷ v) t.told ∙ sym (bits_more b (t.digits ++ (t.end ∷ [])) e);
  long = ap suc t.long;
}

white_before : {n : ℕ} (b : ℕ) {u bits after : List ℕ} → is_bit b ≡ false → is_white b ≡ true → Taken n u bits after → Taken n (b ∷ u) bits after
unfolding each
white_before b e w t = record {
  digits = b ∷ t.digits;
  end = t.end;
  among = rw w t.among;
  ends = t.ends;
  made = ap (λ v. b ∷ v) t.made;
  told = t.told ∙ sym (bits_same b (t.digits ++ (t.end ∷ [])) e);
  long = t.long;
}

-- the last one
bit_last : (b : ℕ) (u : List ℕ) → is_bit b ≡ true → Taken 1 (b ∷ u) ((b - 48) ∷ []) u
unfolding each those
bit_last b u e = record { digits = []; end = b; among = refl; ends = e; made = refl; told = sym (bits_more b [] e); long = refl }

-- a bit put before others
short_is_not : {bits after : List ℕ} → cut_short ≡ complete bits after → ⊥
short_is_not e = let z : ◌≡◌ {A = ℕ} 0 1 = cc in omega arith

with_bit_is : (b : ℕ) (t : Bits) {bits after : List ℕ} → with_bit b t ≡ complete bits after → (others : List ℕ) × (t ≡ complete others after) × (bits ≡ b ∷ others)
with_bit_is b cut_short e = absurd (short_is_not e)
with_bit_is b (complete others rest) e = (others, cc, cc)

bit_first : (n b : ℕ) (u : List ℕ) {bits after : List ℕ} → is_bit b ≡ true → with_bit (b - 48) (take_bits n u) ≡ complete bits after
    → ((others : List ℕ) → 1 ≤ n → take_bits n u ≡ complete others after → Taken n u others after) → Taken (suc n) (b ∷ u) bits after
unfolding take_bits
bit_first zero b u e f rest = subst₂ (Taken 1 (b ∷ u)) (cc) (cc) (bit_last b u e)
bit_first (suc n) b u {bits} {after} e f rest =
    let w = with_bit_is (b - 48) (take_bits (suc n) u) f in
    rw w.2 (bit_before b e (rest w.0 (omega arith) w.1))

pub taken : (n : ℕ) (text : List ℕ) {bits after : List ℕ} → 1 ≤ n → take_bits n text ≡ complete bits after → Taken n text bits after
unfolding take_bits
taken zero text l e = absurd (omega arith)
taken (suc n) [] l e = absurd (short_is_not e)
taken (suc n) (b ∷ u) {bits} {after} l e = by (is_bit b) refl (is_white b) refl (λ others. taken n u {bits = others}) (taken (suc n) u l)
  where
    by : (t : Bool) → is_bit b ≡ t → (w : Bool) → is_white b ≡ w → ((others : List ℕ) → 1 ≤ n → take_bits n u ≡ complete others after → Taken n u others after)
        → (take_bits (suc n) u ≡ complete bits after → Taken (suc n) u bits after) → Taken (suc n) (b ∷ u) bits after
    by true f w g next same = bit_first n b u f (rw f at e) next
    by false f true g next same = white_before b f g (same (rw (f, g) at e))
    by false f false g next same = absurd (short_is_not (rw (f, g) at e))
