-- `scanning::digits::take_data` meets its contract: byte by byte, until all digits are taken.
use mathlib.Core.Path.{refl}
use native.Mathlib.Omega.{arith}
use Rattle.scanning.proofs.Taking.{taking_none, taking_other, taking_next, taking_end}
use Rattle.scanning.proofs.digits.take_data.Goals as goal

pub returns-then-left-eq0 : goal.returns-then-left-eq0
returns-then-left-eq0 c = taking_end c.loop-i.invariant (omega arith) refl

pub returns-then-not-among : goal.returns-then-not-among
returns-then-not-among c = taking_other c.loop-i.invariant (omega (arith, c.if-left-eq0.false)) (omega arith) c.among.ensures c.if-not-among.true

pub loop-i-preserved : goal.loop-i-preserved
loop-i-preserved c = taking_next c.loop-i.invariant (omega (arith, c.if-left-eq0.false)) (omega arith) c.among.ensures c.if-not-among.false c.count_of-left.ensures

pub returns-then-left-eq0-2 : goal.returns-then-left-eq0-2
returns-then-left-eq0-2 c = taking_end c.loop-i.invariant (omega arith) (omega arith)

pub returns-else-left-eq0-2 : goal.returns-else-left-eq0-2
returns-else-left-eq0-2 c = taking_none c.loop-i.invariant (omega (arith, c.if-left-eq0-2.false)) (omega arith)
