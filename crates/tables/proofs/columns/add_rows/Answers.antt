-- `columns::add_rows` meets its contract: row by row from the first, each from the next row, which is still the old one.
use Prim.Native.Nat.{◌+◌}
use native.Mathlib.Omega.{arith}
use mir.Facts.{to_z-of_z}
use Rattle.tables.specs.Moves.{Addable}
use Rattle.tables.proofs.Rowwise.{rowwise_start, rowwise_room, rowwise_next, rowwise_end}
use Rattle.tables.proofs.columns.add_rows.Goals.{In-loop-m}
use Rattle.tables.proofs.columns.add_rows.Goals as goal

pub loop-m-init : goal.loop-m-init
loop-m-init c = rowwise_start

-- the next row may be added to this one
room : (c : In-loop-m) → Addable c.loop-m.at (c.loop-m.at + c.loop-m.m + 1) c.loop-m.m c.args.s c.loop-m.places
room c = rowwise_room (omega arith) (rw (to_z-of_z c.ranges.s) at c.loop-m.invariant) c.requires

pub overflow_add-at : goal.overflow_add-at
overflow_add-at c = let r = room (goal.at.overflow_add-at c).In-loop-m in omega arith

pub overflow_add-at-in-loop-m : goal.overflow_add-at-in-loop-m
overflow_add-at-in-loop-m c = let r = room (goal.at.overflow_add-at-in-loop-m c).In-loop-m in omega arith

pub add_run-requires : goal.add_run-requires
add_run-requires c = rw (to_z-of_z c.ranges.s) (room (goal.at.add_run-requires c).In-loop-m)

pub overflow_add-at-in-loop-m-2 : goal.overflow_add-at-in-loop-m-2
overflow_add-at-in-loop-m-2 c = let r = room (goal.at.overflow_add-at-in-loop-m-2 c).In-loop-m in omega arith

pub overflow_add-at-in-loop-m-3 : goal.overflow_add-at-in-loop-m-3
overflow_add-at-in-loop-m-3 c = let r = room (goal.at.overflow_add-at-in-loop-m-3 c).In-loop-m in omega arith

pub loop-m-preserved : goal.loop-m-preserved
loop-m-preserved c = rowwise_next (omega arith) c.loop-m.invariant c.add_run.ensures

pub returns : goal.returns
returns c = rowwise_end (omega arith) (rw (to_z-of_z c.ranges.s) at c.loop-m.invariant)
