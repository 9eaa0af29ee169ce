-- `writing::lines::put_record` meets its contract: 16 bytes are room for a level of five digits, a column and a row of three, the mark, and what parts and ends them.
use native.Mathlib.Omega.{arith}
use Rattle.writing.proofs.Fields.{level_short, column_short, field_room, level_end, column_end, put_cells}
use Rattle.writing.proofs.lines.put_record.Goals as goal

pub put_field-a-requires : goal.put_field-a-requires
put_field-a-requires c = field_room _ _ _ (level_short _ c.ranges.item.fits) (omega arith)

pub put_field-b-requires : goal.put_field-b-requires
put_field-b-requires c = field_room _ _ _ (column_short _) (omega (arith, level_end _ c.ranges.item.fits c.put_field-a.ensures))

pub put_field-c-requires : goal.put_field-c-requires
put_field-c-requires c = field_room _ _ _ (column_short _) (omega (arith, level_end _ c.ranges.item.fits c.put_field-a.ensures, column_end _ c.put_field-b.ensures))

pub put_byte-d-requires : goal.put_byte-d-requires
put_byte-d-requires c = omega (arith, level_end _ c.ranges.item.fits c.put_field-a.ensures, column_end _ c.put_field-b.ensures, column_end _ c.put_field-c.ensures)

pub put_byte-requires : goal.put_byte-requires
put_byte-requires c =
    omega (arith, level_end _ c.ranges.item.fits c.put_field-a.ensures, column_end _ c.put_field-b.ensures, column_end _ c.put_field-c.ensures, c.put_byte-d.ensures.put.ends)

pub returns : goal.returns
returns c = put_cells _ _ _ _ c.put_field-a.ensures c.put_field-b.ensures c.put_field-c.ensures (rw c.mark_of.ensures at c.put_byte-d.ensures) c.put_byte.ensures
