use lib.IntN.{nat_abs}
use Rattle.tables.specs.Table.{at}
use Rattle.local.proofs.Sums.{Added}
use Rattle.local.proofs.sizes.sizes.Given as goal

abbrev pub invariant-loop-at : goal.invariant-loop-at
invariant-loop-at l = Added (λ n. nat_abs (at l.places n)) 1 l.count l.at l.sum
