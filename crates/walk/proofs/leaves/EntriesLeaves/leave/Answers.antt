-- `walk::leaves::Entries::leave` meets its contract: the next entry is the record.
use mathlib.Core.Path.{refl}
use Rattle.walk.proofs.Leaving.{room_one, written_one}
use Rattle.walk.proofs.leaves.EntriesLeaves.leave.Goals as goal

pub bounds-self-self : goal.bounds-self-self
bounds-self-self c = let a = c.args in room_one a.k a.cell.level a.self.now.length a.self.now.place.now c.requires.2

pub returns : goal.returns
returns c v s = let a = c.args in rw c.cell_record.ensures (refl, written_one v a.k a.cell.level a.cell.column a.cell.row a.self.now.length a.colour a.self.now.place.now s)
