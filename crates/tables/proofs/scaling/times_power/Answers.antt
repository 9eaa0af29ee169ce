-- `scaling::times_power` meets its contract: beside a number that is not zero the power is below 2^62.
use mathlib.Core.Path.{◌≡◌, ap}
use Prim.Native.Nat.{ℕ, ◌*◌, ◌^◌, ◌≤◌, ◌<◌}
use native.Mathlib.Nat as Nat
use native.Mathlib.Decide.{dec_le}
use native.Mathlib.Omega.{arith}
use lib.IntN.{ℤ, pos, nat_abs}
use lib.Pow.{pow_mono}
use mir.Syntax.{w64}
use mir.Val.{of_z}
use Rattle.algebra.proofs.Absolute.{nat_abs_zero}
use Rattle.tables.proofs.scaling.times_power.Goals as goal

power-short : (z : ℤ) (n : ℕ) → nat_abs z * 2 ^ n < 2 ^ 62 → (z ≡ pos 0 → ⊥) → n < 62
power-short z n l o = elim (dec_le 62 n) [
  | yes k ↦ let p : 2 ^ 62 ≤ 2 ^ n = pow_mono k in let m = Nat.mul-le-mul_right (2 ^ n) (Nat.pos_of_ne-zero (λ e. o (nat_abs_zero z e))) in absurd (omega arith)
  | no k ↦ omega arith
]

pub power-requires : goal.power-requires
power-requires c = let h = power-short c.args.z c.args.n c.requires (λ e. c.if-z-eq0.false (ap (of_z w64) e)) in omega arith
