-- Products of sides: a square is 4^k, each of its rows is within it, and how large it is at most.
use mathlib.Core.Path.{◌≡◌, sym, ◌∙◌, ap₂}
use Prim.Native.Nat.{ℕ, suc, ◌+◌, ◌*◌, ◌/◌, ◌^◌, ◌≤◌, ◌<◌}
use native.Mathlib.Nat as Nat
use native.Mathlib.Omega.{arith}
use Rattle.algebra.proofs.Power.{*_pow}

pub square_is : (k : ℕ) {side : ℕ} → side ≡ 2 ^ k → side * side ≡ 4 ^ k
square_is k e = ap₂ ◌*◌ e e ∙ sym (*_pow 2 2 k)

-- row q ends within the square
pub row_within : (side q : ℕ) {n : ℕ} → q < side → side * side ≤ n → q * side + side ≤ n
row_within side q h r = omega (arith, Nat.suc-mul q side, Nat.mul-le-mul_right {m = suc q} {n = side} side h)

-- the square of a side, and of a side with the LFs of a row
pub square_small : (side : ℕ) → side ≤ 128 → side * side ≤ 16_384
square_small side h = Nat.mul-le-mul {n₁ = side} {m₁ = side} {n₂ = 128} {m₂ = 128} h h

pub rows_small : (side : ℕ) → side ≤ 128 → side * (side + (side + 69) / 70) ≤ 16_640
rows_small side h = Nat.mul-le-mul {n₁ = side} {m₁ = side + (side + 69) / 70} {n₂ = 128} {m₂ = 130} h (omega arith)
