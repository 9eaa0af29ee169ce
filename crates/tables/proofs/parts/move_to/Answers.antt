-- `parts::move_to` meets its contract: each arm hands on the degree itself.
use mir.Facts.{to_z-of_z}
use Rattle.tables.proofs.parts.move_to.Goals as goal

pub returns-in-5 : goal.returns-in-5
returns-in-5 g c = rw c.in-5.is (rw (to_z-of_z c.ranges.s) at c.move_by-in-5.ensures)
