-- `ranges::put_row` meets its contract: place by place, each from its own entry of the table.
use Rattle.std.proofs.Common.{◌+◌, ◌*◌, arith, rules}
use Rattle.reading.proofs.Gathering.{putting_start, putting_next, putting_end}
use Rattle.reading.proofs.ranges.put_row.Goals as goal

pub loop-j-init : goal.loop-j-init
loop-j-init c = putting_start

pub loop-j-preserved : goal.loop-j-preserved
loop-j-preserved c = putting_next {from = 9 * c.args.i + c.loop-j.j} (omega arith) (search rules) (omega arith) c.loop-j.invariant

pub returns : goal.returns
returns c = putting_end (omega arith) c.loop-j.invariant
