-- `decimals::capped_amount` meets its contract: the ceiling is put in at each digit.
use Rattle.std.proofs.Common.{arith}
use Rattle.page.proofs.Amounts.{adding_start, adding_digit, adding_next, adding_end}
use Rattle.decimals.proofs.capped_amount.Goals as goal

pub loop-byte-init : goal.loop-byte-init
loop-byte-init g c = adding_start g.row.CEILING _ c.requires

pub with_digit-n-requires : goal.with_digit-n-requires
with_digit-n-requires g c = adding_digit g.row.CEILING _ c.loop-byte.n c.loop-byte.byte-index c.loop-byte.invariant (omega arith)

pub loop-byte-preserved : goal.loop-byte-preserved
loop-byte-preserved g c = adding_next g.row.CEILING _ c.loop-byte.n c.loop-byte.byte-index c.loop-byte.invariant (omega arith) c.with_digit-n.ensures

pub returns : goal.returns
returns g c = adding_end g.row.CEILING _ c.loop-byte.n c.loop-byte.byte-index c.loop-byte.invariant (omega arith)
