-- `reading::opening::head_line` meets its contract: by the fault of what was taken.
use Rattle.reading.proofs.Heads.{head_bad, head_good}
use Rattle.reading.proofs.opening.head_line.Goals as goal

pub returns-in-Some : goal.returns-in-Some
returns-in-Some c = head_bad _ _ _ _ _ _ c.take_line-taken.ensures c.requires.0 c.in-Some.is c.at_line.ensures

pub returns-in-None : goal.returns-in-None
returns-in-None c = head_good _ _ _ _ _ _ c.take_line-taken.ensures c.requires.0 c.in-None.is
