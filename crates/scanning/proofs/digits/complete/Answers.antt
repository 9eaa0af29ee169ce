-- `scanning::digits::complete` meets its contract.
use native.Mathlib.Omega.{arith}
use Rattle.scanning.proofs.Completing.{too_few, as_many}
use Rattle.scanning.proofs.digits.complete.Goals as goal

pub returns-in-None : goal.returns-in-None
returns-in-None c = let a = c.args in too_few _ a.at a.width a.height (omega arith) c.count.ensures c.in-None.ensures

pub returns-in-Some : goal.returns-in-Some
returns-in-Some c = let a = c.args in as_many _ a.at a.width a.height (omega arith) c.count.ensures c.in-Some.ensures c.followed.ensures
