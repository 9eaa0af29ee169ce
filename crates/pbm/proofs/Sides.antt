-- The sides of a picture as they are written: digits only, at most three of them, and read as what they are.
use mathlib.Core.Path.{◌≡◌, refl}
use mathlib.Core.Bool.{true, not, ◌&&◌}
use mathlib.Core.List.{List, [], ◌∷◌}
use Prim.Native.Nat.{ℕ, ◌^◌, ◌≤◌}
use native.Mathlib.Omega.{arith}
use lib.Dec.{lit≤}
use lib.ListN.{length}
use lib.Pow.{pow_mono}
use borrow.Author.Tests.{ne_eqb}
use Rattle.algebra.proofs.Choice.{and_left, and_both}
use Rattle.page.specs.SheetLine.{is_digit, all_digits, is_empty, is_decimal, amount}
use Rattle.page.specs.ListingText.{decimal}
use Rattle.page.proofs.Decimals.{decimal_short, decimal_reads}
use Rattle.pbm.specs.Reading.{is_size}

-- ---- a well-written number is made of digits
well_digits : (f : List ℕ) → is_decimal f ≡ true → all_digits f ≡ true
unfolding all_digits
well_digits [] h = refl
well_digits (b ∷ bs) h = and_left (is_digit b && all_digits bs) _ h

well_some : (f : List ℕ) → is_decimal f ≡ true → not (is_empty f) ≡ true
well_some [] h = h
well_some (b ∷ bs) h = refl

pub decimal_digits : (n : ℕ) → all_digits (decimal n) ≡ true
decimal_digits n = well_digits (decimal n) (decimal_reads n).0

pub amount_decimal : (n : ℕ) → amount 0 (decimal n) ≡ n
amount_decimal n = (decimal_reads n).1

-- what is written of a number that is not 0 is a size
pub decimal_size : (n : ℕ) → 1 ≤ n → is_size (decimal n) ≡ true
decimal_size n h =
    and_both (not (is_empty (decimal n)) && all_digits (decimal n)) _
    (and_both (not (is_empty (decimal n))) _ (well_some (decimal n) (decimal_reads n).0) (decimal_digits n))
    (rw (amount_decimal n, ne_eqb n 0 (λ e. omega arith)))

-- up to depth 7 it has at most three digits
pub side_short : (k : ℕ) → k ≤ 7 → length (decimal (2 ^ k)) ≤ 3
side_short k h = decimal_short 3 (2 ^ k) (lit≤ tt) (omega (arith, pow_mono h))
