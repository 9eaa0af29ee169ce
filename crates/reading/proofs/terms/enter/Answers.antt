-- `reading::terms::enter` meets its contract, number by number.
use Rattle.std.proofs.Common.{rules}
use Rattle.reading.proofs.terms.enter.Goals as goal

pub returns : goal.returns
returns c = search rules
