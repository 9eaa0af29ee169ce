-- `compare::place::take_entries` reads each entry within the bytes that it is given. Entries five bytes apart are refused here, by numbers; without
-- an answer the check would only give up on them.
use native.Mathlib.Omega.{arith}
use Rattle.compare.proofs.place.take_entries.Goals as goal

pub entry_at-requires : goal.entry_at-requires
entry_at-requires c = omega arith
