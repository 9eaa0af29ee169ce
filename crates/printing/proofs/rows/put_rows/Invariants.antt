use Prim.Native.Nat.{◌-◌}
use Rattle.algebra.specs.Sum.{span}
use Rattle.writing.proofs.Puts.{Putting}
use Rattle.pbm.specs.Writing.{row_text}
use Rattle.printing.proofs.rows.put_rows.Given as goal

abbrev pub invariant-loop-n : goal.invariant-loop-n
invariant-loop-n l = Putting (λ n. row_text l.side l.raster (l.side - 1 - n)) (span 0 l.side) l.at l.initial.place l.place l.end l.n
