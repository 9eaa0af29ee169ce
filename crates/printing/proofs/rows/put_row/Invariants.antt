use Rattle.algebra.specs.Sum.{span}
use Rattle.writing.proofs.Puts.{Putting}
use Rattle.pbm.specs.Writing.{digit_text}
use Rattle.printing.proofs.rows.put_row.Given as goal

abbrev pub invariant-loop-p : goal.invariant-loop-p
invariant-loop-p l = Putting (digit_text l.side l.raster l.q) (span 0 l.side) l.at l.initial.place l.place l.end l.p
