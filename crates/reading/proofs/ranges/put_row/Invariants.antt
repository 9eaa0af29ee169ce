use Rattle.reading.proofs.Gathering.{Putting}
use Rattle.reading.proofs.ranges.put_row.Given as goal

abbrev pub invariant-loop-j : goal.invariant-loop-j
invariant-loop-j l = Putting l.values l.i l.n l.at l.initial.coefficients l.coefficients l.j
