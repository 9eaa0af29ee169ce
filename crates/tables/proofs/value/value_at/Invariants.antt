use Rattle.tables.proofs.Values.{Rising}
use Rattle.tables.proofs.value.value_at.Given as goal

abbrev pub invariant-loop-n : goal.invariant-loop-n
invariant-loop-n l = Rising l.places l.d l.u l.v l.z l.first l.n
