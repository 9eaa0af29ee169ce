use Rattle.scanning.proofs.Masking.{Rowing}
use Rattle.scanning.proofs.rows.put_row.Given as goal

abbrev pub invariant-loop-p : goal.invariant-loop-p
invariant-loop-p l = Rowing l.text l.at l.from l.side l.initial.place l.place l.next l.p
