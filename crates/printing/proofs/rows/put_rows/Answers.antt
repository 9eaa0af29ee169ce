-- `printing::rows::put_rows` meets its contract.
use native.Mathlib.Omega.{arith}
use Rattle.writing.proofs.Puts.{putting_start}
use Rattle.pbm.specs.Writing.{rows_text}
use Rattle.printing.proofs.Squares.{row_within}
use Rattle.printing.proofs.Columns.{row_room}
use Rattle.printing.proofs.Numbered.{numbered_room, numbered_next, numbered_end}
use Rattle.printing.proofs.rows.put_rows.Goals as goal

pub loop-n-init : goal.loop-n-init
loop-n-init c = putting_start (omega arith)

pub put_row-end-requires : goal.put_row-end-requires
unfolding rows_text
put_row-end-requires c =
    let h = c.loop-n-test.true in
    (c.requires.0, row_within c.args.side _ (omega arith) c.requires.1, row_room c.args.side c.args.raster.now _ _ _ (numbered_room c.loop-n.invariant h c.requires.2))

pub loop-n-preserved : goal.loop-n-preserved
loop-n-preserved c = numbered_next c.loop-n.invariant c.loop-n-test.true c.put_row-end.ensures

pub returns : goal.returns
unfolding rows_text
returns c = numbered_end c.loop-n.invariant c.loop-n-test.false
