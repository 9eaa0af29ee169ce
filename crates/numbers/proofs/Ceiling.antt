-- Powers of two, and the lesser of one and a ceiling: what the machine's shift gives.
use mathlib.Core.Path.{◌≡◌, ◌∙◌, ap}
use Prim.Native.Nat.{ℕ, ◌*◌, ◌^◌, ◌/◌, ◌%◌, ◌≤◌, ◌<◌, min}
use native.Mathlib.Nat as Nat
use native.Mathlib.Decide.{dec_le}
use native.Mathlib.Omega.{arith}
use lib.IntN.{pos}
use lib.Pow.{pow_mono}
use mir.Syntax.{w64}
use mir.Val.{to_z}
use mir.Facts.{to_z_pos}

-- ---- a b is at most C where a is at most C / b, and above C elsewhere
module _ (C a b : ℕ) (h : b ≡ 0 → ⊥) where
  positive : 0 < b
  positive = Nat.pos_of_ne-zero h

  pub product_below : a ≤ C / b → a * b ≤ C
  product_below = (Nat.le-div_iff_mul-le positive).0

  pub product_above : C / b < a → C < a * b
  product_above = (Nat.div-lt_iff_lt-mul positive).0

-- ---- powers of two
-- the machine's 1 << n is 2^n, since it fits
pub one_shifted : (n : ℕ) → n ≤ 62 → 1 * 2 ^ n % 2 ^ 64 ≡ 2 ^ n
one_shifted n h = let p : 2 ^ n ≤ 2 ^ 62 = pow_mono h in ap (λ x. x % 2 ^ 64) (Nat.one-mul (2 ^ n)) ∙ Nat.mod-eq_of_lt (omega arith)

-- the machine's shift by the lesser of n and 62
pub power_capped : (n m : ℕ) → m ≡ min n 62 → 1 * 2 ^ m % 2 ^ 64 ≡ min (2 ^ n) (2 ^ 62)
power_capped n m e = one_shifted m (omega arith) ∙ elim (dec_le n 62) [
  | yes l ↦ let p : 2 ^ n ≤ 2 ^ 62 = pow_mono l in let q : m ≡ n = omega arith in rw q (omega arith)
  | no l ↦ let h : 62 ≤ n = omega arith in let p : 2 ^ 62 ≤ 2 ^ n = pow_mono h in let q : m ≡ 62 = omega arith in rw q (omega arith)
]

-- and read as a signed number it is the same
pub power_read : (n : ℕ) → n ≤ 62 → to_z w64 (1 * 2 ^ n % 2 ^ 64) ≡ pos (2 ^ n)
power_read n h = let p : 2 ^ n ≤ 2 ^ 62 = pow_mono h in ap (to_z w64) (one_shifted n h) ∙ to_z_pos w64 (omega arith)
