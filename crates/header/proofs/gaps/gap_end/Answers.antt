-- `header::gaps::gap_end` meets its contract: byte by byte, until one does not belong to the gap.
use native.Mathlib.Omega.{arith}
use Rattle.header.proofs.Passing.{passing_next, passing_stop, passing_end}
use Rattle.header.proofs.gaps.gap_end.Goals as goal

pub returns-then-not-in_gap : goal.returns-then-not-in_gap
returns-then-not-in_gap c = passing_stop _ _ c.loop-i.i c.loop-i.invariant (omega arith) c.in_gap.ensures c.if-not-in_gap.true

pub loop-i-preserved : goal.loop-i-preserved
loop-i-preserved c = passing_next _ _ c.loop-i.i c.loop-i.invariant (omega arith) c.in_gap.ensures c.if-not-in_gap.false c.goes_on-inside.ensures

pub returns : goal.returns
returns c = passing_end _ _ _ c.loop-i.invariant (omega arith)
