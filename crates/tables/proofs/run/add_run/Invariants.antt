use Rattle.tables.proofs.Adding.{Adding}
use Rattle.tables.proofs.run.add_run.Given as goal

abbrev pub invariant-loop-c : goal.invariant-loop-c
invariant-loop-c l = Adding l.to l.from l.count l.s l.initial.places l.places l.c
