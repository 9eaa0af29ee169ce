-- `writing::number::put_field` meets its contract.
use Rattle.writing.proofs.Puts.{put_two}
use Rattle.writing.proofs.number.put_field.Goals as goal

pub returns : goal.returns
returns c = put_two c.put_number-next.ensures c.put_byte.ensures
