-- `tables::parts::move_table` meets its contract: the rows, and then the columns.
use mir.Facts.{to_z-of_z}
use Rattle.tables.proofs.Both.{rows_first, columns_then, moved_then}
use Rattle.tables.specs.Moves.{RowsMoved}
use Rattle.tables.proofs.parts.move_table.Goals.{After-move_rows}
use Rattle.tables.proofs.parts.move_table.Goals as goal

pub move_rows-requires : goal.move_rows-requires
move_rows-requires c = rw (to_z-of_z c.ranges.v) (rows_first c.requires.1)

-- the rows are moved
rows : (c : After-move_rows) → RowsMoved 0 c.args.d c.args.v c.args.places.now c.move_rows.new.places
rows c = rw (to_z-of_z c.ranges.v) at c.move_rows.ensures

pub move_columns-requires : goal.move_columns-requires
move_columns-requires c = rw (to_z-of_z c.ranges.u) (columns_then c.requires.1 (rows (goal.at.move_columns-requires c).After-move_rows))

pub returns : goal.returns
returns c = moved_then c.requires.1 (rows (goal.at.returns c).After-move_rows) (rw (to_z-of_z c.ranges.u) at c.move_columns.ensures)
