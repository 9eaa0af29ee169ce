-- The count of binary digits: the powers of two up to a number are those below its count, and it makes 64 with the leading zeros.
use mathlib.Core.Path.{◌≡◌, sym, ◌∙◌, ap}
use mathlib.Core.Bool.{cond}
use Prim.Native.Nat.{ℕ, zero, suc, ◌+◌, ◌^◌, ◌≤◌, ◌<◌, min}
use native.Mathlib.Nat as Nat
use native.Mathlib.Numerals.{add-one}
use native.Mathlib.Decide.{dec_le}
use native.Mathlib.Omega.{arith}
use borrow.Author.Tests.{le-leb}
use lib.Count.{count_leading_zeros, leading_of_zero, leading_top}
use lib.Dec.{leb, leb→le, nleb→lt}
use lib.Pow.{pow_pos, pow_mono}
use Rattle.algebra.specs.Sum.{sumℕ, span}
use Rattle.algebra.specs.Digits.{digits}
use Rattle.algebra.proofs.Choice.{choice}
use Rattle.algebra.proofs.Sum.{sumℕ_mono}
use Rattle.algebra.proofs.Run.{sumℕ_span_none, sumℕ_span_next}

-- m is the length of n: the powers 2^i with i below m are those up to n
record Length (n m : ℕ) : Type 0 where
  up : (i : ℕ) → i < m → 2 ^ i ≤ n
  past : (i : ℕ) → m ≤ i → n < 2 ^ i

-- a number below 2^64 has one, which makes 64 with the leading zeros
has_length : (n : ℕ) → n < 2 ^ 64 → (m : ℕ) × (count_leading_zeros 64 n + m ≡ 64) × Length n m
has_length zero h = (0, let z = leading_of_zero 64 in omega arith, record { up = λ i l. absurd (Nat.not-suc-le-zero l); past = λ i l. pow_pos i })
has_length (suc n) h =
    let t = leading_top 64 (suc n) (Nat.zero-lt-suc n) h in (
      suc t.0,
      t.1,
      record {
        up = λ i l. Nat.le_trans (pow_mono (Nat.le_of_suc-le-suc l)) t.2;
        past = λ i l. Nat.le_trans t.3 (pow_mono l);
      },
    )

-- of the first k powers, m are at most n, or all k where k is below m
module _ {n m : ℕ} (s : Length n m) where
  next_power : (k : ℕ) → min k m + cond (leb (2 ^ k) n) 1 0 ≡ min (suc k) m
  next_power k = choice (λ x. min k m + x ≡ min (suc k) m) (leb (2 ^ k) n) 1 0
      (λ t. elim (dec_le m k) [ yes l ↦ let g = s.past k l in absurd (omega (arith, leb→le)) | no l ↦ omega arith ])
      (λ t. elim (dec_le m k) [ yes l ↦ omega arith | no l ↦ let g = s.up k (omega arith) in absurd (omega (arith, nleb→lt)) ])

  first_powers : (k : ℕ) → sumℕ (span 0 k) (λ i. cond (leb (2 ^ i) n) 1 0) ≡ min k m
  first_powers zero = sumℕ_span_none 0 0 _ (Nat.le_refl 0) ∙ sym (Nat.zero-min m)
  first_powers (suc k) =
      let f : ℕ → ℕ = λ i. cond (leb (2 ^ i) n) 1 0 in
      ap (λ j. sumℕ (span 0 j) f) (sym (add-one k)) ∙ sumℕ_span_next 0 k f (omega arith) ∙ ap (λ x. x + f k) (first_powers k) ∙ next_power k

digits_length : (n : ℕ) (h : n < 2 ^ 64) → digits n ≡ (has_length n h).0
unfolding digits
digits_length n h = let l = has_length n h in let e = l.1 in first_powers l.2 64 ∙ Nat.min-eq_right (omega arith)

-- ---- 2^i is at most n where i is below the count of digits, and only there
pub digits_spec : (n : ℕ) → n < 2 ^ 64 → (i : ℕ) → (2 ^ i ≤ n → i < digits n) × (i < digits n → 2 ^ i ≤ n)
digits_spec n h i = rw (digits_length n h) (let s = (has_length n h).2 in (
  λ l. Nat.lt_of_not-le (λ k. Nat.not-le_of_lt (s.past i k) l),
  s.up i,
))

-- ---- it makes 64 with the leading zeros
pub digits_leading : (n : ℕ) → n < 2 ^ 64 → count_leading_zeros 64 n + digits n ≡ 64
digits_leading n h = ap (λ x. count_leading_zeros 64 n + x) (digits_length n h) ∙ (has_length n h).1

-- ---- a larger number has no fewer
pub digits_mono : {m n : ℕ} → m ≤ n → digits m ≤ digits n
unfolding digits
digits_mono {m} {n} h = sumℕ_mono (span 0 64) (λ i k. choice (λ x. x ≤ cond (leb (2 ^ i) n) 1 0) (leb (2 ^ i) m) 1 0
    (λ t. let l : 2 ^ i ≤ n = omega (arith, leb→le) in rw (le-leb (2 ^ i) n l) (Nat.le_refl 1)) (λ t. omega arith))
