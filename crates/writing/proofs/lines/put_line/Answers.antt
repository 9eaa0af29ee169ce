-- `writing::lines::put_line` meets its contract.
use native.Mathlib.Omega.{arith}
use Rattle.writing.proofs.Fields.{put_parts}
use Rattle.writing.proofs.lines.put_line.Goals as goal

pub put_byte-requires : goal.put_byte-requires
put_byte-requires c = omega (arith, c.put_numbers-end.ensures.1, c.put_word-next.ensures.put.ends)

pub returns : goal.returns
returns c = put_parts _ _ c.put_word-next.ensures c.put_numbers-end.ensures.0 c.put_byte.ensures
