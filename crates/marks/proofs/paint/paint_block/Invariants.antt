use Prim.Native.Nat.{◌-◌}
use Rattle.marks.proofs.Blocks.{Filling}
use Rattle.marks.proofs.paint.paint_block.Given as goal

abbrev pub invariant-loop-row : goal.invariant-loop-row
invariant-loop-row l = Filling l.k (l.k - l.level) l.p l.q l.colour l.initial.place l.place l.row
