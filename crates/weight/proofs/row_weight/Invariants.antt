use Rattle.weight.specs.Series.{sizes}
use Rattle.weight.proofs.Series.{Adding}
use Rattle.weight.proofs.row_weight.Given as goal

abbrev pub invariant-loop-a : goal.invariant-loop-a
invariant-loop-a l = Adding (sizes l.coefficients l.first) l.r l.n l.sum l.power l.a-index
