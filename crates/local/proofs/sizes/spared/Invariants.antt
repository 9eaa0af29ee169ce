use mathlib.Core.Path.{◌≡◌}
use Prim.Native.Nat.{◌+◌, ◌-◌, ◌≤◌}
use Rattle.algebra.specs.Triangle.{row_start}
use Rattle.local.specs.Range.{above_zero, below_zero}
use Rattle.local.proofs.Sums.{Pair}
use Rattle.local.proofs.Sparing.{rows}
use Rattle.local.proofs.sizes.spared.Given as goal

abbrev pub invariant-loop-a : goal.invariant-loop-a
invariant-loop-a l = (2 ≤ l.a) × (l.a ≤ l.d → l.first ≡ row_start l.d l.a) × Pair (rows above_zero l.places l.d) (rows below_zero l.places l.d) l.d l.a l.fall l.rise

abbrev pub decreases-loop-a : goal.decreases-loop-a
decreases-loop-a l = l.d + 1 - l.a
