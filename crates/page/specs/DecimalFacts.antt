-- What is written of a number and what is read of it, as statements. That they hold is proofs/Decimals.
use Rattle.std.specs.Prelude.{◌≡◌, true, List, ℕ}
use Rattle.page.specs.SheetLine.{is_decimal, amount, is_written, worth}
use Rattle.page.specs.ListingText.{decimal}

-- a number that is written is well written, and is read back
abbrev pub DecimalReads : Type 0
DecimalReads = (n : ℕ) → (is_decimal (decimal n) ≡ true) × (amount 0 (decimal n) ≡ n)

-- a number is well written in one way only: as it is written here
abbrev pub DecimalOnly : Type 0
DecimalOnly = (f : List ℕ) → is_decimal f ≡ true → decimal (amount 0 f) ≡ f

-- and so is one with a sign: no number is well written in two ways
abbrev pub WrittenOnce : Type 0
WrittenOnce = (f g : List ℕ) → is_written f ≡ true → is_written g ≡ true → worth f ≡ worth g → f ≡ g
