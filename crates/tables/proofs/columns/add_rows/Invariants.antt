use Rattle.tables.proofs.Rowwise.{Rowwise}
use Rattle.tables.proofs.columns.add_rows.Given as goal

abbrev pub invariant-loop-m : goal.invariant-loop-m
invariant-loop-m l = Rowwise l.first l.n l.s l.initial.places l.places l.at l.m
