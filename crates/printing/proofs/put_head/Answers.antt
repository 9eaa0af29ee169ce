-- `printing::put_head` meets its contract.
use mathlib.Core.List.{append_assoc}
use native.Mathlib.Omega.{arith}
use lib.ListN.{length}
use Rattle.page.specs.ListingText.{decimal}
use Rattle.writing.proofs.Puts.{put_two}
use Rattle.writing.proofs.Fields.{field_end}
use Rattle.pbm.specs.Writing.{head_text}
use Rattle.printing.proofs.Pictures.{head_length}
use Rattle.printing.proofs.put_head.Goals as goal

pub put_word-first-requires : goal.put_word-first-requires
put_word-first-requires c = omega (arith, head_length c.args.side)

pub put_field-second-requires : goal.put_field-second-requires
put_field-second-requires c = omega (arith, head_length c.args.side, c.put_word-first.ensures.put.ends)

pub put_field-requires : goal.put_field-requires
put_field-requires c =
    let side = c.args.side in
    omega (arith, head_length side, c.put_word-first.ensures.put.ends, field_end side _ (length (decimal side)) (omega arith) c.put_field-second.ensures)

pub returns : goal.returns
unfolding head_text
returns c = rw append_assoc at (put_two c.put_word-first.ensures (put_two c.put_field-second.ensures c.put_field.ensures))
