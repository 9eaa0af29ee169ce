-- `scanning::rows::put_row` meets its contract: one digit after the other, and its bit.
use native.Mathlib.Omega.{arith}
use Rattle.scanning.proofs.Masking.{rowing_some, rowing_next, rowing_end}
use Rattle.scanning.proofs.rows.put_row.Goals as goal

pub next_bit-found-requires : goal.next_bit-found-requires
next_bit-found-requires c = rowing_some c.requires.0 c.loop-p.invariant (omega arith)

pub loop-p-preserved : goal.loop-p-preserved
loop-p-preserved c = rowing_next c.requires.0 c.loop-p.invariant (omega arith) c.next_bit-found.ensures

pub returns : goal.returns
returns c = rowing_end c.loop-p.invariant (omega arith)
