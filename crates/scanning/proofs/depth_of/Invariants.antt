use Rattle.scanning.proofs.Depths.{Trying}
use Rattle.scanning.proofs.depth_of.Given as goal

abbrev pub invariant-loop-k : goal.invariant-loop-k
invariant-loop-k l = Trying l.width l.height l.k
