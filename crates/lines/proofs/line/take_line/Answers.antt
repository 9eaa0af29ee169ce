-- `lines::line::take_line` meets its contract: the line up to its LF, read.
use native.Mathlib.Omega.{arith}
use Rattle.lines.specs.Steps.{Finds}
use Rattle.lines.proofs.Taking.{taken_none, taken_some}
use Rattle.lines.proofs.line.take_line.Goals as goal

pub returns-then-at-n : goal.returns-then-at-n
returns-then-at-n c = rw c.no_line.ensures (taken_none _ _ _ _ _ c.if-at-n.true)

pub returns : goal.returns
returns c =
    let found : Finds 10 c.args.text.now c.args.at c.find-end.result = c.find-end.ensures in
    rw c.closed.ensures (taken_some _ _ _ _ _ found (omega (arith, c.if-at-n.false)) c.numbers_of-line.ensures)
