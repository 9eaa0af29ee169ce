use Prim.Native.Nat.{◌-◌}
use lib.ListN.{length}
use Rattle.reading.proofs.Naming.{Naming}
use Rattle.reading.proofs.terms.read_terms.Given as goal

abbrev pub invariant-loop-at : goal.invariant-loop-at
invariant-loop-at l = Naming l.text l.from l.d l.values l.named l.at l.line

abbrev pub decreases-loop-at : goal.decreases-loop-at
decreases-loop-at l = length l.text - l.at
