-- `rows::move_row` meets its contract: Horner's rule, from the last coefficient of the row down to the first.
use native.Mathlib.Omega.{arith}
use mir.Facts.{to_z-of_z}
use Rattle.tables.proofs.Moving.{moving_start, moving_down, moving_room, moving_next, moving_end}
use Rattle.tables.proofs.rows.move_row.Goals as goal

pub loop-i-init : goal.loop-i-init
loop-i-init c = moving_start

pub add_run-requires : goal.add_run-requires
add_run-requires c = rw (to_z-of_z c.ranges.s) (moving_room (moving_down (omega arith) (rw (to_z-of_z c.ranges.s) at c.loop-i.invariant)) c.requires)

pub loop-i-preserved : goal.loop-i-preserved
loop-i-preserved c = moving_next (moving_down (omega arith) c.loop-i.invariant) c.add_run.ensures

pub returns : goal.returns
returns c = moving_end (omega arith) (rw (to_z-of_z c.ranges.s) at c.loop-i.invariant)
