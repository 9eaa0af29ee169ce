-- `tables::parts::to_part` meets its contract: the rows, and then the columns.
use mathlib.Core.Path.{◌∙◌}
use mir.Facts.{to_z-of_z}
use Rattle.tables.proofs.Both.{rows_first, columns_then, moved_then}
use Rattle.tables.specs.Moves.{RowsMoved}
use Rattle.tables.proofs.parts.to_part.Goals.{After-move_to}
use Rattle.tables.proofs.parts.to_part.Goals as goal

pub move_to-requires : goal.move_to-requires
move_to-requires c = rw (to_z-of_z c.ranges.along) (c.requires.0, c.requires.1, c.requires.3, rows_first c.requires.4)

-- the rows are moved
rows : (c : After-move_to) → RowsMoved 0 c.args.d c.args.along c.args.places.now c.move_to.new.places
rows c = rw (to_z-of_z c.ranges.along) at c.move_to.ensures

pub move_to-requires-2 : goal.move_to-requires-2
move_to-requires-2 c =
    let r = rows (goal.at.move_to-requires-2 c).After-move_to in
    rw (to_z-of_z c.ranges.across) (r.long ∙ c.requires.0, c.requires.1, c.requires.2, columns_then c.requires.4 r)

pub returns : goal.returns
returns c = moved_then c.requires.4 (rows (goal.at.returns c).After-move_to) (rw (to_z-of_z c.ranges.across) at c.move_to-2.ensures)
