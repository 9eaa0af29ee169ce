-- `weight::sum_weight` meets its contract: the rows are added as the terms of a row are, each found where its row starts.
use native.Mathlib.Omega.{arith}
use Rattle.weight.proofs.Rows.{rows_start, rows_inside, rows_next, rows_end}
use Rattle.weight.proofs.sum_weight.Goals as goal

pub loop-i-init : goal.loop-i-init
loop-i-init c = rows_start

pub row_weight-requires : goal.row_weight-requires
row_weight-requires c = (rows_inside (omega arith) c.requires.1 c.loop-i.invariant, omega arith)

pub overflow_add-first-in-loop-i : goal.overflow_add-first-in-loop-i
overflow_add-first-in-loop-i c = omega (arith, rows_inside (omega arith) c.requires.1 c.loop-i.invariant)

pub loop-i-preserved : goal.loop-i-preserved
loop-i-preserved c = rows_next (omega arith) (omega arith) c.row_weight.ensures c.capped_product-row.ensures (omega arith) (omega arith) c.loop-i.invariant

pub returns-2 : goal.returns-2
returns-2 c = let next = rows_next {next = c.capped_product-scale.result} (omega arith) (omega arith) c.row_weight.ensures c.capped_product-row.ensures (omega arith) (omega arith) c.loop-i.invariant in rows_end (omega arith) next
