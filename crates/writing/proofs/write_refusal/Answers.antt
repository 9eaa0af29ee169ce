-- `writing::write_refusal` meets its contract.
use native.Mathlib.Omega.{arith}
use Rattle.page.specs.ListingText.{refused_line}
use Rattle.writing.proofs.write_refusal.Goals as goal

pub put_line-requires : goal.put_line-requires
put_line-requires c = omega arith

pub returns : goal.returns
unfolding refused_line
returns c = c.put_line.ensures
