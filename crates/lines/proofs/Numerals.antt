-- Numbers as they are written, byte by byte.
use mathlib.Core.Path.{◌≡◌, refl, sym, ◌∙◌, ap}
use mathlib.Core.Bool.{Bool, true, false, not, ◌&&◌, ◌||◌, cond, and-true, or-true, false≢true}
use mathlib.Core.List.{List, [], ◌∷◌}
use Prim.Native.Nat.{ℕ, zero, suc, ◌+◌, ◌*◌, ◌-◌, ◌^◌, ◌≤◌, ◌<◌, min}
use native.Mathlib.Omega.{arith}
use borrow.Author.Rules.{part_to_end}
use borrow.Author.Tests.{leb-true, ltb-true, ltb-false, lt-ltb, le-ltb, ne_eqb}
use lib.Dec.{leb, ltb, eqb}
use lib.IntN.{pos, negsuc, neg_ℤ}
use lib.ListN.{length, get_or, take, drop}
use Rattle.page.specs.SheetLine.{is_digit, all_digits, is_empty, is_decimal, amount, is_minus, without_sign, is_within}
use Rattle.std.specs.Prelude.{Ok, Err}
use Rattle.page.specs.declared.Refusal.{Refusal}
use Rattle.page.specs.declared.Refusal.TheVariants.{Written, Within}
use Rattle.lines.specs.Steps.{number_in, decimal_in, single_in, signless_in, minus_in}

-- ---- a field is a sign and digits
pub sign_off : (f : List ℕ) → drop (cond (is_minus f) 1 0) f ≡ without_sign f
sign_off [] = refl
sign_off (b ∷ f) = by (eqb b 45)
  where
    by : (t : Bool) → drop (cond t 1 0) (b ∷ f) ≡ cond t f (b ∷ f)
    by true = refl
    by false = refl

pub no_sign : (f : List ℕ) → is_minus f ≡ false → without_sign f ≡ f
no_sign [] e = refl
no_sign (b ∷ f) e = rw e

pub digits_of : (f : List ℕ) → is_decimal f ≡ true → all_digits f ≡ true
unfolding all_digits
digits_of [] e = refl
digits_of (b ∷ f) e = first_two (is_digit b) (all_digits f) (not (eqb b 48) || is_empty f) e
  where
    first_two : (x y z : Bool) → x && y && z ≡ true → x && y ≡ true
    first_two true true z e = refl
    first_two true false z e = e
    first_two false y z e = e

pub malformed : (negative : Bool) (f : List ℕ) → is_decimal (without_sign f) ≡ false → Err Written ≡ number_in negative f
unfolding number_in
malformed negative f e = rw e

-- the number -n, its digits' number n capped at 2^32
below : (negative : Bool) (n : ℕ) → minus_in negative (min n (2 ^ 32)) ≡ cond (not (eqb n 0)) (cond (is_within negative (neg_ℤ (pos n))) (Ok (neg_ℤ (pos n))) (Err Within)) (Err Written)
below negative zero = refl
below false (suc m) = let g : min (suc m) 4294967296 ≡ 0 → ⊥ = λ e. omega arith in rw (ne_eqb (min (suc m) 4294967296) 0 g, ne_eqb (suc m) 0 (λ e. omega arith))
below true (suc m) = by (ltb 2147483647 m) refl
  where
    by : (b : Bool) → ltb 2147483647 m ≡ b
        → minus_in true (min (suc m) 4294967296) ≡ cond (not (eqb (suc m) 0)) (cond (not (ltb 2147483647 m)) (Ok (negsuc m)) (Err Within)) (Err Written)
    by true e =
        let h = ltb-true 2147483647 m e in let g : min (suc m) 4294967296 ≡ 0 → ⊥ = λ e. omega arith in let l : 2147483648 < min (suc m) 4294967296 = omega arith in
        rw (ne_eqb (min (suc m) 4294967296) 0 g, lt-ltb 2147483648 (min (suc m) 4294967296) l, ne_eqb (suc m) 0 (λ e. omega arith), e)
    by false e =
        let h = ltb-false 2147483647 m e in let s : min (suc m) 4294967296 ≡ suc m = omega arith in let l : suc m ≤ 2147483648 = omega arith in
        rw (s, ne_eqb (suc m) 0 (λ e. omega arith), le-ltb 2147483648 (suc m) l, e)

pub minus_case : (negative : Bool) (f : List ℕ) → is_minus f ≡ true → is_decimal (without_sign f) ≡ true → minus_in negative (min (amount 0 (without_sign f)) (2 ^ 32)) ≡ number_in negative f
unfolding number_in
minus_case negative f s d = below negative (amount 0 (without_sign f)) ∙ rw (s, d)

above : (negative : Bool) (n : ℕ) → signless_in (min n (2 ^ 32)) ≡ cond (is_within negative (pos n)) (Ok (pos n)) (Err Within)
above negative n = by (ltb n 2147483648) refl ∙ sym (within negative)
  where
    within : (negative : Bool) → cond (is_within negative (pos n)) (Ok (pos n)) (Err Within) ≡ cond (ltb n 2147483648) (Ok (pos n)) (Err Within)
    within true = ap (λ b. cond b (Ok (pos n)) (Err Within)) (and-true (ltb n 2147483648))
    within false =
        ap (λ b. cond (ltb n 2147483648 && not b) (Ok (pos n)) (Err Within)) (le-ltb n 0 (omega arith))
        ∙ ap (λ b. cond b (Ok (pos n)) (Err Within)) (and-true (ltb n 2147483648))

    by : (b : Bool) → ltb n 2147483648 ≡ b → signless_in (min n 4294967296) ≡ cond (ltb n 2147483648) (Ok (pos n)) (Err Within)
    by true e = let h = ltb-true n 2147483648 e in let s : min n 4294967296 ≡ n = omega arith in let l : n ≤ 2147483647 = omega arith in rw (s, e, le-ltb 2147483647 n l)
    by false e = let h = ltb-false n 2147483648 e in let l : 2147483647 < min n 4294967296 = omega arith in rw (e, lt-ltb 2147483647 (min n 4294967296) l)

pub signless_case : (negative : Bool) (f : List ℕ) → is_minus f ≡ false → is_decimal (without_sign f) ≡ true → signless_in (min (amount 0 (without_sign f)) (2 ^ 32)) ≡ number_in negative f
unfolding number_in
signless_case negative f s d = ap (λ g. signless_in (min (amount 0 g) (2 ^ 32))) (no_sign f s) ∙ above negative (amount 0 f) ∙ rw (s, d)

-- ---- one byte: a digit, or no number
pub digit_range : (b : ℕ) → is_digit b ≡ true → (48 ≤ b) × (b ≤ 57)
digit_range b d = let (x, y) = parts (leb 48 b) (leb b 57) d in (leb-true 48 b x, leb-true b 57 y)
  where
    parts : (x y : Bool) → x && y ≡ true → (x ≡ true) × (y ≡ true)
    parts true y e = (refl, e)
    parts false y e = absurd (false≢true e)

single_digit : (negative : Bool) (b : ℕ) → is_digit b ≡ true → single_in b ≡ number_in negative (b ∷ [])
unfolding all_digits amount
single_digit negative b d =
    let (h, k) = digit_range b d in
    let s : eqb b 45 ≡ false = ne_eqb b 45 (λ q. omega arith) in let w : is_decimal (without_sign (b ∷ [])) ≡ true = rw (s, d) (or-true (not (eqb b 48))) in
    let m : min (10 * 0 + (b - 48)) 4294967296 ≡ b - 48 = omega arith in
    rw d (sym (ap signless_in m ∙ rw (le-ltb 2147483647 (b - 48) (omega arith))) ∙ ap (λ g. signless_in (min (amount 0 g) (2 ^ 32))) (sym (no_sign (b ∷ []) s)) ∙ signless_case negative (b ∷ []) s w)

single_none : (negative : Bool) (b : ℕ) → is_digit b ≡ false → single_in b ≡ number_in negative (b ∷ [])
unfolding all_digits
single_none negative b d = rw d (malformed negative (b ∷ []) (by (eqb b 45)))
  where
    by : (t : Bool) → is_decimal (cond t [] (b ∷ [])) ≡ false
    by true = refl
    by false = rw d

pub one_byte : (negative : Bool) (f : List ℕ) → length f ≡ 1 → single_in (get_or f 0 0) ≡ number_in negative f
one_byte negative [] h = absurd (omega arith)
one_byte negative (b ∷ []) h = by (is_digit b) refl
  where
    by : (t : Bool) → is_digit b ≡ t → single_in b ≡ number_in negative (b ∷ [])
    by true d = single_digit negative b d
    by false d = single_none negative b d
one_byte negative (b ∷ c ∷ f) h = absurd (omega arith)

-- ---- digits without a leading zero
pub no_leading_zero : (f : List ℕ) → (length f ≡ 0 → ⊥) → (1 < length f → get_or f 0 0 ≡ 48 → ⊥) → all_digits f ≡ is_decimal f
unfolding all_digits
no_leading_zero [] n h = absurd (n refl)
no_leading_zero (b ∷ []) n h = rw (or-true (not (eqb b 48))) (sym (and-true (is_digit b && true)))
no_leading_zero (b ∷ d ∷ f) n h = let z : eqb b 48 ≡ false = ne_eqb b 48 (h (omega arith)) in rw z (sym (and-true (is_digit b && (is_digit d && all_digits f))))

-- ---- a field, by its digits: they are badly written, or its sign decides
module _ (negative : Bool) (f : List ℕ) where
  pub digits_bad : {e : Refusal} → decimal_in (without_sign f) ≡ Err e → Err e ≡ number_in negative f
  digits_bad {e} q = by (is_decimal (without_sign f)) refl q
    where
      by : (b : Bool) → is_decimal (without_sign f) ≡ b → cond b (Ok (min (amount 0 (without_sign f)) (2 ^ 32))) (Err Written) ≡ Err e → Err e ≡ number_in negative f
      by true d q = cc
      by false d q = let w : Written ≡ e = cc in ap Err (sym w) ∙ malformed negative f d

  digits_good : {n : ℕ} → decimal_in (without_sign f) ≡ Ok n → (is_decimal (without_sign f) ≡ true) × (min (amount 0 (without_sign f)) (2 ^ 32) ≡ n)
  digits_good {n} q = by (is_decimal (without_sign f)) q
    where
      by : (b : Bool) → cond b (Ok (min (amount 0 (without_sign f)) (2 ^ 32))) (Err Written) ≡ Ok n → (b ≡ true) × (min (amount 0 (without_sign f)) (2 ^ 32) ≡ n)
      by true q = (refl, cc)
      by false q = cc

  pub digits_minus : {n : ℕ} → is_minus f ≡ true → decimal_in (without_sign f) ≡ Ok n → minus_in negative n ≡ number_in negative f
  digits_minus s q = let (d, e) = digits_good q in ap (minus_in negative) (sym e) ∙ minus_case negative f s d

  pub digits_plain : {n : ℕ} → is_minus f ≡ false → decimal_in (without_sign f) ≡ Ok n → signless_in n ≡ number_in negative f
  digits_plain s q = let (d, e) = digits_good q in ap signless_in (sym e) ∙ signless_case negative f s d

-- the digits, as the part of the field after the sign
pub after_sign : (f : List ℕ) → is_minus f ≡ true → take (length f - 1) (drop 1 f) ≡ without_sign f
after_sign f s = part_to_end f 1 ∙ ap (λ t. drop (cond t 1 0) f) (sym s) ∙ sign_off f
