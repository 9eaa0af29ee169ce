use Rattle.scanning.proofs.Masking.{Masking}
use Rattle.scanning.proofs.rows.put_rows.Given as goal

abbrev pub invariant-loop-n : goal.invariant-loop-n
invariant-loop-n l = Masking l.text l.at l.side l.initial.place l.place l.next l.n
