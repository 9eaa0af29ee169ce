-- `writing::lines::put_word` meets its contract.
use Rattle.std.proofs.Common.{arith}
use Rattle.writing.proofs.Puts.{put_part}
use Rattle.writing.proofs.lines.put_word.Goals as goal

pub returns : goal.returns
returns c = put_part c.copy_from_slice.ensures.after (omega arith) c.requires
