-- `printing::refusals::side` meets its contract.
use mathlib.Core.Path.{◌≡◌, ◌∙◌}
use Prim.Native.Nat.{◌*◌, ◌%◌, ◌^◌, ◌≤◌}
use native.Mathlib.Nat.{one-mul}
use native.Mathlib.Omega.{arith}
use lib.Pow.{shl_exact, pow_mono}
use lib.Dec.{lit<}
use Rattle.printing.proofs.refusals.side.Goals as goal

pub returns : goal.returns
returns c =
    let k = c.args.k in
    let e : 1 * 2 ^ k % 2 ^ 32 ≡ 2 ^ k = shl_exact 1 k 32 (lit< tt) (omega arith) ∙ one-mul (2 ^ k) in
    let small : 2 ^ k ≤ 2 ^ 7 = pow_mono c.requires in
    (e, omega arith)
