-- `printing::rows::put_row` meets its contract.
use native.Mathlib.Omega.{arith}
use Rattle.writing.proofs.Puts.{putting_start}
use Rattle.pbm.specs.Writing.{row_text}
use Rattle.printing.proofs.Numbered.{numbered_room, numbered_next, numbered_end}
use Rattle.printing.proofs.rows.put_row.Goals as goal

pub overflow_mul-from : goal.overflow_mul-from
overflow_mul-from c = record { fits = omega arith }

pub loop-p-init : goal.loop-p-init
loop-p-init c = putting_start (omega arith)

pub put_digit-end-requires : goal.put_digit-end-requires
unfolding row_text
put_digit-end-requires c = (c.loop-p-test.true, c.requires.0, numbered_room c.loop-p.invariant c.loop-p-test.true c.requires.2)

pub loop-p-preserved : goal.loop-p-preserved
loop-p-preserved c = numbered_next c.loop-p.invariant c.loop-p-test.true c.put_digit-end.ensures

pub returns : goal.returns
unfolding row_text
returns c = numbered_end c.loop-p.invariant c.loop-p-test.false
