-- `reading::terms::read_terms` meets its contract, line after line.
use Rattle.std.proofs.Common.{arith}
use Rattle.reading.proofs.Naming.{naming_start, naming_next, naming_bad, naming_end}
use Rattle.reading.proofs.terms.read_terms.Goals as goal

pub loop-at-init : goal.loop-at-init
loop-at-init c = naming_start _ _ _ _ _ c.requires.2 c.requires.0

pub returns-in-Err : goal.returns-in-Err
returns-in-Err c = naming_bad _ _ _ c.loop-at.invariant (rw c.in-Err.is at c.term_line.ensures) c.at_line.ensures

pub overflow_add-line : goal.overflow_add-line
overflow_add-line c = let l = c.loop-at.invariant in record { fits = omega (arith, l.most, l.within) }

pub loop-at-preserved : goal.loop-at-preserved
loop-at-preserved c = naming_next _ _ _ c.loop-at.invariant (rw c.in-Ok.is at c.term_line.ensures)

pub returns : goal.returns
returns c = let l = c.loop-at.invariant in naming_end _ _ _ l (let w = l.within in omega arith)
