use Rattle.weight.proofs.Rows.{Rows}
use Rattle.weight.proofs.sum_weight.Given as goal

abbrev pub invariant-loop-i : goal.invariant-loop-i
invariant-loop-i l = Rows l.coefficients l.d l.rx l.ry l.sum l.scale l.first l.i
