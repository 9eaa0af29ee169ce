-- `cells::cell::centre` meets its contract: 2^8 · 2^20 and 255 · 2^17 together fit.
use mathlib.Core.Path.{◌≡◌}
use Prim.Native.Nat.{◌+◌, ◌*◌, ◌^◌, ◌≤◌}
use native.Mathlib.Nat as Nat
use native.Mathlib.Omega.{arith}
use borrow.Author.Rules.{rules}
use lib.IntN.{pos, ◌*ℤ◌, nat_abs}
use lib.Pow.{pow_mono}
use mir.Syntax.{w64}
use mir.Val.{to_z, of_z}
use Rattle.algebra.proofs.Absolute.{nat_abs-*ℤ}
use Rattle.cells.proofs.cell.centre.Goals as goal

pub sum-requires : goal.sum-requires
sum-requires c =
    let corner-is : to_z w64 (of_z w64 c.corner.result) ≡ pos (2 ^ (c.args.k + 1)) *ℤ c.args.z = search rules in
    let step_is : to_z w64 (of_z w64 c.product.result) ≡ pos (2 * c.args.p + 1) *ℤ c.args.h = search rules in
    let room : (2 * c.args.p + 1) * nat_abs c.args.h ≤ 255 * 2 ^ 17 = Nat.mul-le-mul {n₁ = 2 * c.args.p + 1} {m₁ = nat_abs c.args.h} {n₂ = 255} {m₂ = 2 ^ 17} (omega arith) c.requires.3 in
    let corner-room : 2 ^ (c.args.k + 1) * nat_abs c.args.z ≤ 2 ^ 8 * 1_048_576 = let i : c.args.k + 1 ≤ 8 = omega arith in
    Nat.mul-le-mul {n₁ = 2 ^ (c.args.k + 1)} {m₁ = nat_abs c.args.z} {n₂ = 2 ^ 8} {m₂ = 1_048_576} (pow_mono i) c.requires.0 in
    rw (step_is, corner-is, nat_abs-*ℤ (pos (2 * c.args.p + 1)) c.args.h, nat_abs-*ℤ (pos (2 ^ (c.args.k + 1))) c.args.z) (omega (arith, room, corner-room))
