use Rattle.tables.proofs.Moving.{Moving}
use Rattle.tables.proofs.rows.move_row.Given as goal

abbrev pub invariant-loop-i : goal.invariant-loop-i
invariant-loop-i l = Moving l.first l.n l.s l.initial.places l.places l.i
