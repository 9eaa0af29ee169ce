use Rattle.scanning.proofs.Taking.{Taking}
use Rattle.scanning.proofs.digits.take_data.Given as goal

abbrev pub invariant-loop-i : goal.invariant-loop-i
invariant-loop-i l = Taking l.text l.at l.count l.left l.i
