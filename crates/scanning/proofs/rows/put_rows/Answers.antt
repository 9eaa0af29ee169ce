-- `scanning::rows::put_rows` meets its contract: the last row of the mask is set first.
use native.Mathlib.Omega.{arith}
use Rattle.scanning.proofs.Masking.{masking_start, masking_next, masking_end}
use Rattle.scanning.proofs.rows.put_rows.Goals as goal

pub loop-n-init : goal.loop-n-init
loop-n-init c = masking_start

pub loop-n-preserved : goal.loop-n-preserved
loop-n-preserved c = masking_next c.requires.0 c.loop-n.invariant (omega arith) c.put_row-next.ensures

pub returns : goal.returns
returns c = masking_end c.loop-n.invariant (omega arith)
