-- `rows::move_rows` meets its contract: row by row, each of the old numbers.
use mathlib.Core.Path.{◌∙◌}
use native.Mathlib.Omega.{arith}
use mir.Facts.{to_z-of_z}
use Rattle.tables.proofs.Setting.{setting_start, setting_next, setting_end}
use Rattle.tables.proofs.Moving.{rows_inside, rows_room, rows_next}
use Rattle.tables.proofs.rows.move_rows.Goals as goal

pub loop-i-init : goal.loop-i-init
loop-i-init c = setting_start

pub move_row-requires : goal.move_row-requires
move_row-requires c = rw (to_z-of_z c.ranges.s) (rows_room (omega arith) c.loop-i.invariant c.requires)

pub overflow_add-first : goal.overflow_add-first
overflow_add-first c = let w = rows_inside (omega arith) c.loop-i.invariant c.requires in omega arith

pub overflow_add-first-in-loop-i : goal.overflow_add-first-in-loop-i
overflow_add-first-in-loop-i c = let w = rows_inside (omega arith) c.loop-i.invariant c.requires in omega arith

pub loop-i-preserved : goal.loop-i-preserved
loop-i-preserved c = let p = c.loop-i.invariant in setting_next (omega arith) (rows_next (omega arith) p c.move_row.ensures) p

pub returns-2 : goal.returns-2
returns-2 c =
    let p = rw (to_z-of_z c.ranges.s) at c.loop-i.invariant in let q = rw (to_z-of_z c.ranges.s) at c.move_row.ensures in
    let e = setting_end (omega arith) (setting_next (omega arith) (rows_next (omega arith) p q) p) in record { long = q.long ∙ p.long; each = e.0; before = e.1; after = e.2 }
