use Prim.Native.Nat.{◌*◌, ◌≤◌}
use Rattle.writing.specs.Steps.{record_text}
use Rattle.writing.proofs.Puts.{Putting}
use Rattle.writing.proofs.lines.put_records.Given as goal

abbrev pub invariant-loop-item : goal.invariant-loop-item
invariant-loop-item l = Putting record_text l.records 0 l.initial.place l.place l.end l.item-index × (l.end ≤ 16 * l.item-index)
