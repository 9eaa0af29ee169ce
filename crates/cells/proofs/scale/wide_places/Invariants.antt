use Rattle.cells.proofs.Widening.{Widening}
use Rattle.cells.proofs.scale.wide_places.Given as goal

abbrev pub invariant-loop-at : goal.invariant-loop-at
invariant-loop-at l = Widening l.coefficients l.places l.at
