use Prim.Native.Nat.{◌≤◌}
use Rattle.tables.specs.Table.{row_of}
use Rattle.local.specs.Range.{above_zero, below_zero}
use Rattle.local.proofs.Sums.{Pair}
use Rattle.local.proofs.Sparing.{evens}
use Rattle.local.proofs.sizes.spared_row.Given as goal

abbrev pub invariant-loop-b : goal.invariant-loop-b
invariant-loop-b l = (l.from ≤ l.b) × Pair (evens above_zero (row_of l.places l.first) l.from) (evens below_zero (row_of l.places l.first) l.from) l.n l.b l.fall l.rise
