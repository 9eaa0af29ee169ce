-- `reading::terms::line_fault` meets its contract: the term's fault where both exponents are read.
use Rattle.std.proofs.Common.{rules}
use Rattle.reading.proofs.terms.line_fault.Goals as goal

pub returns-in-Err : goal.returns-in-Err
returns-in-Err c = search rules
