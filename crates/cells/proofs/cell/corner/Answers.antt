-- `cells::cell::corner` meets its contract: 2^8 · 2^20 fits.
use mathlib.Core.Path.{◌≡◌}
use Prim.Native.Nat.{◌+◌, ◌*◌, ◌^◌, ◌≤◌}
use native.Mathlib.Nat as Nat
use native.Mathlib.Omega.{arith}
use borrow.Author.Rules.{rules}
use lib.IntN.{pos, nat_abs}
use lib.Pow.{pow_mono}
use mir.Syntax.{w64}
use mir.Val.{to_z, of_z}
use Rattle.cells.proofs.cell.corner.Goals as goal

pub product-requires : goal.product-requires
product-requires c =
    let scale_is : to_z w64 (of_z w64 c.power.result) ≡ pos (2 ^ (c.args.k + 1)) = search rules in
    let wide_is : to_z w64 (of_z w64 c.wide.result) ≡ c.args.z = search rules in
    let room : 2 ^ (c.args.k + 1) * nat_abs c.args.z ≤ 2 ^ 8 * 1_048_576 = let i : c.args.k + 1 ≤ 8 = omega arith in
    Nat.mul-le-mul {n₁ = 2 ^ (c.args.k + 1)} {m₁ = nat_abs c.args.z} {n₂ = 2 ^ 8} {m₂ = 1_048_576} (pow_mono i) c.requires.0 in
    rw (scale_is, wide_is) (omega (arith, room))
