use Prim.Native.Nat.{◌-◌}
use Rattle.tables.proofs.Shifting.{Shifting}
use Rattle.tables.proofs.columns.move_columns.Given as goal

abbrev pub invariant-loop-n : goal.invariant-loop-n
invariant-loop-n l = Shifting l.start l.d l.s l.initial.places l.places l.first (l.n - 1)
