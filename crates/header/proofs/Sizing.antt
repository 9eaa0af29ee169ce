-- Sizes after a gap: their digits, and the number that they write.
use mathlib.Core.Path.{◌≡◌, refl, sym, ◌∙◌, ap}
use mathlib.Core.Bool.{Bool, true, false, not, ◌&&◌, cond}
use mathlib.Core.List.{List, [], ◌∷◌}
use Prim.Native.Nat.{ℕ, zero, suc, ◌-◌, ◌^◌, ◌≤◌, ◌<◌, min}
use native.Mathlib.Omega.{arith}
use borrow.Author.Tests.{lt-ltb, le-ltb, eq-eqb, ne_eqb, eqb-true, eqb-false}
use lib.Dec.{ltb, eqb}
use lib.ListN.{length, take, drop, length-drop}
use Rattle.std.proofs.Common.{None}
use Rattle.page.specs.SheetLine.{all_digits, is_empty, amount}
use Rattle.pbm.specs.Refusals.{Found, not_plain}
use Rattle.pbm.specs.Steps.{size_then}
use Rattle.pbm.proofs.Sizes.{run_digits}
use Rattle.header.specs.Steps.{GapPassed, DigitsPassed, SizeRead, SizeTaken}

-- they are digits indeed
pub digits_all : {text : List ℕ} {at end : ℕ} → DigitsPassed text at end → all_digits (take (end - at) (drop at text)) ≡ true
digits_all {text} {at} d = ap all_digits (sym d.digits) ∙ run_digits (drop at text)

-- a part has bytes where its end is not its start
part_empty : (text : List ℕ) (at end : ℕ) → at ≤ end → end ≤ length text → is_empty (take (end - at) (drop at text)) ≡ eqb end at
part_empty text at end l h = by (eqb end at) refl
  where
    some : (n : ℕ) (l : List ℕ) → 0 < n → 0 < length l → is_empty (take n l) ≡ false
    some zero l h g = absurd (omega arith)
    some (suc n) [] h g = absurd (omega arith)
    some (suc n) (b ∷ l) h g = refl

    by : (b : Bool) → eqb end at ≡ b → is_empty (take (end - at) (drop at text)) ≡ b
    by true e = let z : end - at ≡ 0 = let q = eqb-true end at e in omega arith in rw z
    by false e = some (end - at) (drop at text) (omega (arith, eqb-false end at e)) (omega (arith, eqb-false end at e, length-drop at text))

-- ---- a size: no gap, no digits, 0, or a number
module _ (text : List ℕ) (at : ℕ) {from end : ℕ} (g : GapPassed text at from) (d : DigitsPassed text from end) where
  abbrev number : ℕ
  number = amount 0 (take (end - from) (drop from text))

  by_size : (rest : ℕ → List ℕ → Found) → size_then (drop at text) rest ≡ cond (ltb at from && not (eqb end from) && not (eqb number 0)) (rest number (drop end text)) not_plain
  by_size rest = rw (g.rest, d.digits, d.rest, g.parted, part_empty text from end d.further d.within)

  pub size_unparted : from ≡ at → SizeTaken text at None
  size_unparted e rest = by_size rest ∙ rw (le-ltb at from (omega arith))

  module _ (l : at < from) where
    pub size_missing : end ≡ from → SizeTaken text at None
    size_missing e rest = by_size rest ∙ rw (lt-ltb at from l, eq-eqb end from e)

    module _ (n : end ≡ from → ⊥) {value : ℕ} (e : value ≡ min number (2 ^ 63)) where
      by_number : {z : Bool} → eqb number 0 ≡ z → (rest : ℕ → List ℕ → Found) → size_then (drop at text) rest ≡ cond (not z) (rest number (drop end text)) not_plain
      by_number q rest = by_size rest ∙ rw (lt-ltb at from l, ne_eqb end from n, q)

      pub size_zero : value ≡ 0 → SizeTaken text at None
      size_zero q = by_number (eq-eqb number 0 (omega arith))

      pub size_read : 1 ≤ value → SizeRead text at (record { value = value; next = end })
      size_read h = record { exact = number; step = by_number (ne_eqb number 0 (λ q. omega arith)); told = e; positive = h; within = d.within }
