-- `columns::move_columns` meets its contract: the rows from the last up, each step one of Horner's rule in every column.
use native.Mathlib.Nat as Nat
use native.Mathlib.Omega.{arith}
use mir.Facts.{to_z-of_z}
use Rattle.algebra.proofs.Places.{row_start_all}
use Rattle.tables.proofs.Subtables.{first_row_inside}
use Rattle.tables.proofs.Shifting.{shifting_start, shifting_lower, shifting_room, shifting_next, shifting_end}
use Rattle.tables.proofs.columns.move_columns.Goals as goal

pub overflow_add-first : goal.overflow_add-first
overflow_add-first c = let r = row_start_all c.args.d in omega (arith, first_row_inside c.args.d)

pub overflow_add-first-2 : goal.overflow_add-first-2
overflow_add-first-2 c = let r = row_start_all c.args.d in omega (arith, first_row_inside c.args.d)

pub overflow_mul-first : goal.overflow_mul-first
overflow_mul-first c = let r = row_start_all c.args.d in omega arith

pub overflow_add-first-3 : goal.overflow_add-first-3
overflow_add-first-3 c = let r = row_start_all c.args.d in omega arith

pub loop-n-init : goal.loop-n-init
loop-n-init c = shifting_start

pub overflow_add-first-in-loop-n : goal.overflow_add-first-in-loop-n
overflow_add-first-in-loop-n c = let r = row_start_all c.args.d in omega (arith, first_row_inside c.args.d)

pub overflow_sub-first-in-loop-n : goal.overflow_sub-first-in-loop-n
overflow_sub-first-in-loop-n c = shifting_lower (omega arith) (omega arith) c.loop-n.invariant

pub add_rows-requires : goal.add_rows-requires
add_rows-requires c = let p = rw (to_z-of_z c.ranges.s) at c.loop-n.invariant in rw (to_z-of_z c.ranges.s) (shifting_room (omega arith) (omega arith) p c.requires)

pub loop-n-preserved : goal.loop-n-preserved
loop-n-preserved c = rw (Nat.add-sub_cancel c.loop-n.n 1) (shifting_next (omega arith) (omega arith) c.loop-n.invariant c.add_rows.ensures)

pub returns : goal.returns
returns c = shifting_end (omega arith) (rw (to_z-of_z c.ranges.s) at c.loop-n.invariant)

pub returns-2 : goal.returns-2
returns-2 c =
    let p = rw (to_z-of_z c.ranges.s) at c.loop-n.invariant in let q = rw (to_z-of_z c.ranges.s) at c.add_rows.ensures in
    shifting_end (omega arith) (shifting_next (omega arith) (omega arith) p q)
