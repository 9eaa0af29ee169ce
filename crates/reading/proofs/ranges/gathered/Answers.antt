-- `ranges::gathered` meets its contract: row by row, each after the one before it.
use Rattle.std.proofs.Common.{arith}
use Rattle.reading.proofs.Gathering.{gathering_start, gathering_room, gathering_next, gathering_end}
use Rattle.reading.proofs.ranges.gathered.Goals as goal

pub loop-i-init : goal.loop-i-init
loop-i-init c = gathering_start

pub put_row-requires : goal.put_row-requires
put_row-requires c = let r = gathering_room c.requires.0 (omega arith) c.loop-i.invariant in (r.0, c.requires.1, omega arith, omega arith, r.1)

pub overflow_add-at-in-loop-i : goal.overflow_add-at-in-loop-i
overflow_add-at-in-loop-i c = let r = gathering_room c.requires.0 (omega arith) c.loop-i.invariant in record { fits = omega arith }

pub loop-i-preserved : goal.loop-i-preserved
loop-i-preserved c = gathering_next c.requires.0 (omega arith) c.put_row.ensures c.loop-i.invariant

pub returns : goal.returns
returns c = gathering_end (omega arith) c.loop-i.invariant
