-- `probe::refusals::outside` meets its contract: the two ends of the side, each compared with u.
use mathlib.Core.Path.{◌≡◌}
use mathlib.Core.Bool.{true, false}
use Prim.Native.Nat.{ℕ, ◌+◌, ◌*◌, ◌^◌, ◌≤◌}
use native.Mathlib.Nat as Nat
use native.Mathlib.Omega.{arith}
use borrow.Author.Rules.{rules}
use lib.IntN.{ℤ, pos, ◌+ℤ◌, ◌*ℤ◌, nat_abs}
use lib.Pow.{pow_mono}
use lib.Signed.{lt_z}
use mir.Syntax.{w64}
use mir.Val.{to_z, of_z}
use mir.Facts.{to_z-of_z}
use Rattle.algebra.proofs.Absolute.{nat_abs-+ℤ}
use Rattle.page.specs.Refusals.{outside_side}
use Rattle.probe.proofs.refusals.outside.Goals as goal

-- ---- below the lower end, and else by the upper end
module _ (s k : ℕ) (z u : ℤ) where
  past-low : lt_z u (pos (2 ^ (k + 1)) *ℤ z) ≡ true → true ≡ outside_side s k z u
  past-low e = rw e

  past-high : lt_z u (pos (2 ^ (k + 1)) *ℤ z) ≡ false → lt_z (pos (2 ^ (k + 1)) *ℤ (z +ℤ pos (2 ^ s))) u ≡ outside_side s k z u
  past-high e = rw e

-- ---- what fits: 2^(k+1) times what is at most n in size
scaled_small : (k n : ℕ) (z : ℤ) → k ≤ 7 → nat_abs z ≤ n → 2 ^ (k + 1) * nat_abs z ≤ 2 ^ 8 * n
scaled_small k n z l h = let i : k + 1 ≤ 8 = omega arith in Nat.mul-le-mul {n₁ = 2 ^ (k + 1)} {m₁ = nat_abs z} {n₂ = 2 ^ 8} {m₂ = n} (pow_mono i) h

pub product-low-requires : goal.product-low-requires
product-low-requires c =
    let scale : to_z w64 (of_z w64 c.power-scale.result) ≡ pos (2 ^ (c.args.k + 1)) = search rules in
    let near : to_z w64 (of_z w64 c.wide-near.result) ≡ c.args.z = search rules in
    let m = scaled_small c.args.k 1_048_576 c.args.z c.requires.2 c.requires.0 in rw (scale, near) (omega arith)

pub returns-then-u-low : goal.returns-then-u-low
returns-then-u-low c =
    let low : to_z w64 (of_z w64 c.product-low.result) ≡ pos (2 ^ (c.args.k + 1)) *ℤ c.args.z = search rules in
    past-low c.args.s c.args.k c.args.z c.args.u (simp (low, to_z-of_z c.ranges.u) at c.if-u-low.true)

pub product-high-requires : goal.product-high-requires
product-high-requires c =
    let scale : to_z w64 (of_z w64 c.power-scale.result) ≡ pos (2 ^ (c.args.k + 1)) = search rules in
    let far : to_z w64 (of_z w64 c.sum-far.result) ≡ c.args.z +ℤ pos (2 ^ c.args.s) = search rules in
    let s : 2 ^ c.args.s ≤ 2 ^ 10 = pow_mono c.requires.1 in let n = nat_abs-+ℤ c.args.z (pos (2 ^ c.args.s)) in
    let m = scaled_small c.args.k 2_097_152 (c.args.z +ℤ pos (2 ^ c.args.s)) c.requires.2 (omega arith) in rw (scale, far) (omega arith)

pub returns : goal.returns
returns c =
    let low : to_z w64 (of_z w64 c.product-low.result) ≡ pos (2 ^ (c.args.k + 1)) *ℤ c.args.z = search rules in
    let high : to_z w64 (of_z w64 c.product-high.result) ≡ pos (2 ^ (c.args.k + 1)) *ℤ (c.args.z +ℤ pos (2 ^ c.args.s)) = search rules in
    simp (high, to_z-of_z c.ranges.u) (past-high c.args.s c.args.k c.args.z c.args.u (simp (low, to_z-of_z c.ranges.u) at c.if-u-low.false))
