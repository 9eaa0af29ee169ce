-- `lines::fields::part` meets its contract: tab by tab.
use Prim.Native.Nat.{◌+◌}
use native.Mathlib.Omega.{arith}
use Rattle.lines.specs.Steps.{Finds}
use Rattle.lines.proofs.Ending.{ending_start, ending_next, ending_end, ending_more}
use Rattle.lines.proofs.fields.part.Goals as goal

pub loop-at-init : goal.loop-at-init
loop-at-init c =
    let found : Finds 9 c.args.line.now 0 c.find-at.result = c.find-at.ensures in
    ending_start _ found

pub returns-then-count-eq4 : goal.returns-then-count-eq4
returns-then-count-eq4 c = ending_more _ c.loop-at.invariant (omega arith) c.if-count-eq4.true

pub loop-at-smaller : goal.loop-at-smaller
loop-at-smaller c =
    let found-next : Finds 9 c.args.line.now (c.loop-at.at + 1) c.find-at-in-loop-at.result = c.find-at-in-loop-at.ensures in
    let f = found-next in omega (arith, f.at)

pub loop-at-preserved : goal.loop-at-preserved
loop-at-preserved c =
    let found-next : Finds 9 c.args.line.now (c.loop-at.at + 1) c.find-at-in-loop-at.result = c.find-at-in-loop-at.ensures in
    let l = c.loop-at in ending_next _ l.invariant (omega arith) (omega (arith, l.invariant.few, c.if-count-eq4.false)) found-next

pub returns : goal.returns
returns c = ending_end _ c.loop-at.invariant (omega arith)
