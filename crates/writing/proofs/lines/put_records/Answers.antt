-- `writing::lines::put_records` meets its contract: 16 bytes are room for each record.
use borrow.Author.Rules.{rules}
use native.Mathlib.Omega.{arith}
use Rattle.writing.specs.Steps.{records_text}
use Rattle.writing.proofs.Puts.{putting_start, putting_next, putting_end}
use Rattle.writing.proofs.Fields.{record_short}
use Rattle.writing.proofs.lines.put_records.Goals as goal

pub loop-item-init : goal.loop-item-init
loop-item-init c = (putting_start (omega arith), omega arith)

pub loop-item-preserved : goal.loop-item-preserved
loop-item-preserved c =
    (search (rules, putting_next), omega (arith, record_short))

pub returns : goal.returns
unfolding records_text
returns c = let p = c.loop-item.invariant in (putting_end c.loop-item-test.false p.0, omega arith)
