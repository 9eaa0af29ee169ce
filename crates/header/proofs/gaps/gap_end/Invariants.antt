use Rattle.header.proofs.Passing.{Passing}
use Rattle.header.proofs.gaps.gap_end.Given as goal

abbrev pub invariant-loop-i : goal.invariant-loop-i
invariant-loop-i l = Passing l.text l.at l.inside l.i
