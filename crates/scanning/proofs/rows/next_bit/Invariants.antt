use Prim.Native.Nat.{◌-◌}
use lib.ListN.{length}
use Rattle.scanning.proofs.Ahead.{Seeking}
use Rattle.scanning.proofs.rows.next_bit.Given as goal

abbrev pub invariant-loop-i : goal.invariant-loop-i
invariant-loop-i l = Seeking l.text l.at l.i

abbrev pub decreases-loop-i : goal.decreases-loop-i
decreases-loop-i l = length l.text - l.i
