-- `scanning::depth_of` meets its contract: the depths are tried in turn.
use mathlib.Core.Path.{◌≡◌, sym, ◌∙◌, ap}
use Prim.Native.Nat.{◌*◌, ◌%◌, ◌^◌}
use native.Mathlib.Omega.{arith}
use lib.Dec.{eqb}
use borrow.Author.Tests.{ne_eqb}
use Rattle.numbers.proofs.Ceiling.{one_shifted}
use Rattle.scanning.proofs.Depths.{trying_start, trying_found, trying_next, trying_end, no_width, no_height}
use Rattle.scanning.proofs.depth_of.Goals as goal
use Rattle.scanning.proofs.depth_of.Goals.{else-width-side-via-then-width-side+else-height-side, else-width-side-via-else-width-side}

pub loop-k-init : goal.loop-k-init
loop-k-init c = trying_start

pub returns-then-height-side : goal.returns-then-height-side
returns-then-height-side c =
    let side-is : 1 * 2 ^ c.loop-k.k % 2 ^ 64 ≡ 2 ^ c.loop-k.k = one_shifted c.loop-k.k (omega arith) in
    trying_found c.loop-k.invariant (omega arith) (c.if-width-side.true ∙ side-is) (c.if-height-side.true ∙ side-is)

pub loop-k-preserved : goal.loop-k-preserved
loop-k-preserved c =
    let side-is : 1 * 2 ^ c.loop-k.k % 2 ^ 64 ≡ 2 ^ c.loop-k.k = one_shifted c.loop-k.k (omega arith) in
    trying_next c.loop-k.invariant (omega arith) (elim c.else-width-side.branch [
      | else-width-side-via-then-width-side+else-height-side w ↦ no_height c.args.width c.args.height c.loop-k.k (sym (ap (eqb _) side-is) ∙ ne_eqb _ _ w.if-height-side.false)
      | else-width-side-via-else-width-side w ↦ no_width c.args.width c.args.height c.loop-k.k (λ e. w.if-width-side.false (e ∙ sym side-is))
    ])

pub returns : goal.returns
returns c = trying_end c.loop-k.invariant (omega arith)
