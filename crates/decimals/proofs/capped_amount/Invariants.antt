use Rattle.page.proofs.Amounts.{Adding}
use Rattle.decimals.proofs.capped_amount.Given as goal

abbrev pub invariant-loop-byte : goal.invariant-loop-byte
invariant-loop-byte g l = Adding g.row.CEILING l.digits l.n l.byte-index
