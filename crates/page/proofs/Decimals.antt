-- A number in decimal: its digits, how many there are at most, and that what is written is what is read.
use mathlib.Core.Path.{◌≡◌, refl, sym, ◌∙◌, ap}
use mathlib.Core.Bool.{Bool, true, false, ◌&&◌, false≢true}
use mathlib.Core.List.{List, [], ◌∷◌, ◌++◌, append_assoc, append-nil}
use Prim.Native.Nat.{ℕ, zero, suc, ◌+◌, ◌*◌, ◌-◌, ◌/◌, ◌%◌, ◌^◌, ◌≤◌, ◌<◌}
use native.Mathlib.Nat as Nat
use native.Mathlib.Numerals.{add-one}
use native.Mathlib.Decide.{dec_lt, ℕ_discrete}
use native.Mathlib.Omega.{arith}
use lib.Dec.{leb, eqb}
use lib.IntN.{ℤ, pos, negsuc, neg_ℤ}
use lib.ListN.{length, length-append}
use borrow.Author.Tests.{leb-true, lt-ltb, le-ltb, le-leb, eq-eqb, ne_eqb, eqb-true, eqb-false, not-true}
use Rattle.algebra.proofs.Choice.{and_left, and_right, and_both}
use Rattle.page.specs.SheetLine.{is_digit, all_digits, is_empty, is_decimal, amount, is_written, worth}
use Rattle.page.specs.ListingText.{digits_within, decimal}
use Rattle.page.specs.DecimalFacts.{DecimalReads, DecimalOnly, WrittenOnce}

-- ---- the digits of a number: one below ten, and else those of its tenth and the last one
pub decimal_one : (n : ℕ) → n < 10 → decimal n ≡ (48 + n) ∷ []
unfolding decimal digits_within
decimal_one n h = rw (add-one n, lt-ltb n 10 h)

-- room for more digits than there are changes nothing
room_enough : (m k n : ℕ) → n < m → n < k → digits_within m n ≡ digits_within k n
unfolding digits_within
room_enough zero k n h i = absurd (omega arith)
room_enough (suc m) zero n h i = absurd (omega arith)
room_enough (suc m) (suc k) n h i = elim (dec_lt n 10) [
  | yes l ↦ rw (lt-ltb n 10 l)
  | no l ↦ rw (le-ltb n 10 (omega arith), room_enough m k (n / 10) (omega arith) (omega arith))
]

pub decimal_more : (n : ℕ) → 10 ≤ n → decimal n ≡ decimal (n / 10) ++ ((48 + n % 10) ∷ [])
unfolding decimal digits_within
decimal_more n h = rw (add-one n, le-ltb n 10 h, room_enough n (n / 10 + 1) (n / 10) (omega arith) (omega arith))

-- what holds of one digit, and of more if it holds of the tenth, holds of every number and its digits
decimal_induction : (P : ℕ → List ℕ → Type 0) → ((n : ℕ) → n < 10 → P n ((48 + n) ∷ []))
    → ((n : ℕ) → 10 ≤ n → P (n / 10) (decimal (n / 10)) → P n (decimal (n / 10) ++ ((48 + n % 10) ∷ [])))
    → (n : ℕ) → P n (decimal n)
decimal_induction P one more n = below (n + 1) n (omega arith)
  where
    below : (m n : ℕ) → n < m → P n (decimal n)
    below zero n h = absurd (omega arith)
    below (suc m) n h = elim (dec_lt n 10) [
      | yes l ↦ rw (decimal_one n l) (one n l)
      | no l ↦ rw (decimal_more n (omega arith)) (more n (omega arith) (below m (n / 10) (omega arith)))
    ]

-- ---- how many digits there are: a number below 10^m has at most m
pub digits_one : (n : ℕ) → n < 10 → length (decimal n) ≡ 1
digits_one n h = ap length (decimal_one n h)

pub digits_more : (n : ℕ) → 10 ≤ n → length (decimal n) ≡ length (decimal (n / 10)) + 1
digits_more n h = ap length (decimal_more n h) ∙ length-append (decimal (n / 10)) _

pub decimal_short : (m n : ℕ) → 1 ≤ m → n < 10 ^ m → length (decimal n) ≤ m
decimal_short zero n h i = absurd (omega arith)
decimal_short (suc zero) n h i = omega (arith, digits_one n i)
decimal_short (suc (suc m)) n h i = elim (dec_lt n 10) [
  | yes l ↦ omega (arith, digits_one n l)
  | no l ↦
      let t : n / 10 < 10 ^ suc m = omega (arith, Nat.pow-suc 10 (suc m)) in
      omega (arith, digits_more n (omega arith), decimal_short (suc m) (n / 10) (omega arith) t)
]

-- ---- reading
-- one digit more
amount_more : (n b : ℕ) (bs : List ℕ) → amount n (bs ++ (b ∷ [])) ≡ 10 * amount n bs + (b - 48)
unfolding amount
amount_more n b [] = refl
amount_more n b (a ∷ bs) = amount_more (10 * n + (a - 48)) b bs

all_more : (b : ℕ) (bs : List ℕ) → all_digits bs ≡ true → is_digit b ≡ true → all_digits (bs ++ (b ∷ [])) ≡ true
unfolding all_digits
all_more b [] h i = and_both (is_digit b) true i refl
all_more b (a ∷ bs) h i = and_both (is_digit a) _ (and_left (is_digit a) (all_digits bs) h) (all_more b bs (and_right (is_digit a) (all_digits bs) h) i)

-- a digit is from 48 to 57
digit_low : (b : ℕ) → is_digit b ≡ true → 48 ≤ b
digit_low b h = leb-true 48 b (and_left (leb 48 b) (leb b 57) h)

digit_high : (b : ℕ) → is_digit b ≡ true → b ≤ 57
digit_high b h = leb-true b 57 (and_right (leb 48 b) (leb b 57) h)

digit_is : (n : ℕ) → n < 10 → is_digit (48 + n) ≡ true
digit_is n h = and_both (leb 48 (48 + n)) (leb (48 + n) 57) (le-leb 48 (48 + n) (omega arith)) (le-leb (48 + n) 57 (omega arith))

-- ---- what a well-written number is made of: digits, of which the first is 0 only where it is alone
record Well (b : ℕ) (bs : List ℕ) : Type 0 where
  first : is_digit b ≡ true
  others : all_digits bs ≡ true
  plain : b ≡ 48 → bs ≡ []

empty_is : (bs : List ℕ) → is_empty bs ≡ true → bs ≡ []
empty_is [] e = refl
empty_is (b ∷ bs) e = absurd (false≢true e)

well : (b : ℕ) (bs : List ℕ) → is_decimal (b ∷ bs) ≡ true → Well b bs
well b bs h =
    let d = and_left (is_digit b && all_digits bs) _ h in
    record { first = and_left (is_digit b) _ d; others = and_right (is_digit b) _ d; plain = λ e. empty_is bs (rw (eq-eqb b 48 e) at (and_right (is_digit b && all_digits bs) _ h)) }

is_well : (b : ℕ) (bs : List ℕ) → Well b bs → is_decimal (b ∷ bs) ≡ true
is_well b bs w = and_both (is_digit b && all_digits bs) _ (and_both (is_digit b) _ w.first w.others) (elim (ℕ_discrete b 48) [
  | yes e ↦ rw (eq-eqb b 48 e, w.plain e)
  | no n ↦ rw (ne_eqb b 48 n)
])

-- ---- what is written is read
-- a digit after a number that is not 0
well_more : (f : List ℕ) (n : ℕ) → is_decimal f ≡ true → 1 ≤ amount 0 f → n < 10 → is_decimal (f ++ ((48 + n) ∷ [])) ≡ true
unfolding amount
well_more [] n h i l = absurd (false≢true h)
well_more (b ∷ bs) n h i l =
    let w = well b bs h in
    is_well b _ (record { first = w.first; others = all_more (48 + n) bs w.others (digit_is n l); plain = λ e. absurd (let z = rw (w.plain e) at i in omega arith) })

pub decimal_reads : DecimalReads
unfolding amount all_digits
decimal_reads = decimal_induction (λ n f. (is_decimal f ≡ true) × (amount 0 f ≡ n))
    (λ n h. (is_well (48 + n) [] (record { first = digit_is n h; others = refl; plain = λ e. refl }), omega arith))
    (λ n h i. let (w, e) = i in (well_more (decimal (n / 10)) (n % 10) w (omega arith) (omega arith), amount_more 0 (48 + n % 10) (decimal (n / 10)) ∙ omega arith))

-- ---- and nothing else is
-- digits after a number that is not 0
decimal_on : (n : ℕ) (bs : List ℕ) → 1 ≤ n → all_digits bs ≡ true → decimal (amount n bs) ≡ decimal n ++ bs
unfolding amount all_digits
decimal_on n [] h i = sym (append-nil (decimal n))
decimal_on n (b ∷ bs) h i =
    let d = and_left (is_digit b) (all_digits bs) i in
    let low = digit_low b d in
    let high = digit_high b d in
    let m = 10 * n + (b - 48) in
    let tenth : m / 10 ≡ n = omega arith in
    let last : 48 + m % 10 ≡ b = omega arith in
    let e : decimal m ≡ decimal n ++ (b ∷ []) = decimal_more m (omega arith) ∙ rw (tenth, last) in
    decimal_on m bs (omega arith) (and_right (is_digit b) (all_digits bs) i) ∙ ap (λ l. l ++ bs) e ∙ append_assoc (decimal n) (b ∷ []) bs

pub decimal_only : DecimalOnly
unfolding amount
decimal_only [] h = absurd (false≢true h)
decimal_only (b ∷ bs) h =
    let w = well b bs h in
    let low = digit_low b w.first in
    let high = digit_high b w.first in
    let same : 48 + (10 * 0 + (b - 48)) ≡ b = omega arith in
    let e : decimal (10 * 0 + (b - 48)) ≡ b ∷ [] = decimal_one (10 * 0 + (b - 48)) (omega arith) ∙ ap (λ d. d ∷ []) same in
    elim (ℕ_discrete b 48) [
      | yes z ↦ rw (w.plain z) e
      | no n ↦ decimal_on (10 * 0 + (b - 48)) bs (omega arith) w.others ∙ ap (λ l. l ++ bs) e
    ]

-- ---- with a sign: a number as it is written, and that it is well written in no other way
written : ℤ → List ℕ
written (pos n) = decimal n
written (negsuc n) = 45 ∷ decimal (suc n)

-- a number after `-`
written_minus : (n : ℕ) → 1 ≤ n → written (neg_ℤ (pos n)) ≡ 45 ∷ decimal n
unfolding written
written_minus zero h = absurd (omega arith)
written_minus (suc n) h = refl

written_only : (f : List ℕ) → is_written f ≡ true → written (worth f) ≡ f
unfolding written
written_only [] h = absurd (false≢true h)
written_only (b ∷ bs) h = by (eqb b 45) refl
  where
    by : (minus : Bool) → eqb b 45 ≡ minus → written (worth (b ∷ bs)) ≡ b ∷ bs
    by true e =
        let i = rw e at h in
        let some = eqb-false (amount 0 bs) 0 (not-true _ (and_right (is_decimal bs) _ i)) in
        rw e (written_minus (amount 0 bs) (omega arith) ∙ ap (λ l. 45 ∷ l) (decimal_only bs (and_left (is_decimal bs) _ i)) ∙ ap (λ m. m ∷ bs) (sym (eqb-true b 45 e)))
    by false e = rw e (decimal_only (b ∷ bs) (and_left (is_decimal (b ∷ bs)) _ (rw e at h)))

pub written_once : WrittenOnce
written_once f g h i e = sym (written_only f h) ∙ ap written e ∙ written_only g i
