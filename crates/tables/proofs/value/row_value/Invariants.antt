use Prim.Native.Nat.{◌+◌}
use Rattle.tables.specs.Table.{row_of}
use Rattle.tables.proofs.Values.{Descent}
use Rattle.tables.proofs.value.row_value.Given as goal

abbrev pub invariant-loop-j : goal.invariant-loop-j
invariant-loop-j l = Descent (row_of l.places l.first) l.v l.n l.z (l.j + 1)
