-- `scanning::picture_in` meets its contract: the head, and then the digits.
use Rattle.scanning.proofs.Pictures.{no_digits_found, all_found}
use Rattle.scanning.proofs.picture_in.Goals as goal

pub returns-then-not-complete : goal.returns-then-not-complete
returns-then-not-complete c = no_digits_found c.in_ok-head.ensures c.complete.ensures c.if-not-complete.true

pub returns : goal.returns
returns c = all_found c.in_ok-head.ensures c.complete.ensures c.if-not-complete.false
