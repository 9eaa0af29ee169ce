-- `writing::write_listing` meets its contract.
use native.Mathlib.Omega.{arith}
use Rattle.page.specs.ListingText.{total_line}
use Rattle.writing.proofs.Puts.{put_two}
use Rattle.writing.proofs.write_listing.Goals as goal

pub put_line-requires : goal.put_line-requires
put_line-requires c = omega (arith, c.put_records-end.ensures.1)

pub returns : goal.returns
unfolding total_line
returns c = put_two c.put_records-end.ensures.0 c.put_line.ensures
