-- `parts::move_by` meets its contract: what is below 0 and of a size up to 1 is -1.
use mathlib.Core.Path.{◌≡◌}
use native.Mathlib.Omega.{arith}
use lib.IntN.{negsuc}
use Rattle.std.proofs.lemmas.Int.{ints}
use Rattle.tables.proofs.parts.move_by.Goals as goal

pub returns-then-s-lt0 : goal.returns-then-s-lt0
returns-then-s-lt0 g c = let e : c.args.s ≡ negsuc 0 = grind (arith, ints) in rw e c.shift.ensures
