-- `reading::terms::term_fault` meets its contract: the exponents, the degree and the mark, one after the other.
use Rattle.std.proofs.Common.{arith}
use Rattle.reading.proofs.Tables.{beyond_degree, marked_twice, unmarked}
use Rattle.reading.proofs.terms.term_fault.Goals as goal

pub returns-then-i-gt8 : goal.returns-then-i-gt8
returns-then-i-gt8 c = beyond_degree _ _ _ (λ h k l. omega (arith, c.if-i-gt8.true)) _

pub returns-then-j-gt8 : goal.returns-then-j-gt8
returns-then-j-gt8 c = beyond_degree _ _ _ (λ h k l. omega (arith, c.if-j-gt8.true)) _

pub returns-then-d-i : goal.returns-then-d-i
returns-then-d-i c = beyond_degree _ _ _ (λ h k l. omega (arith, c.if-d-i.true)) _

pub returns-then-named-i-ne0 : goal.returns-then-named-i-ne0
returns-then-named-i-ne0 c = marked_twice _ _ _ (omega arith) (omega arith) (omega arith) _ (omega arith) c.if-named-i-ne0.true

pub returns : goal.returns
returns c = unmarked _ _ _ (omega arith) (omega arith) (omega arith) _ (omega arith) c.if-named-i-ne0.false
