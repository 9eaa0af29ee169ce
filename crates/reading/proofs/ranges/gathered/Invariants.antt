use Rattle.reading.proofs.Gathering.{Gathering}
use Rattle.reading.proofs.ranges.gathered.Given as goal

abbrev pub invariant-loop-i : goal.invariant-loop-i
invariant-loop-i l = Gathering l.d l.values l.coefficients l.at l.i
