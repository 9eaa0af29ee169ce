-- `marks::paint::paint_block` meets its contract: its rows are painted one after the other.
use native.Mathlib.Omega.{arith}
use Rattle.marks.proofs.Blocks.{columns_end, run_inside, filling_next, filling_end}
use Rattle.marks.proofs.paint.paint_block.Goals as goal

pub paint_run-requires : goal.paint_run-requires
paint_run-requires c = let r = run_inside c.requires.1 c.requires.2 c.side-stride.ensures c.side-count.ensures c.loop-row-test.true in let l = c.loop-row.auto.place in omega arith

pub loop-row-preserved : goal.loop-row-preserved
loop-row-preserved c =
    let a = c.args in let cell = c.requires.1 in let t = c.side-count.ensures in
    filling_next (columns_end a.k a.level a.p cell.level cell.column) (rw t at c.loop-row-test.true) (rw (t, c.side-stride.ensures) at c.paint_run.ensures) c.loop-row.invariant

pub returns : goal.returns
returns c = filling_end (omega arith) c.loop-row.invariant
