-- The levels left: examining a cell comes before cutting it.
use Prim.Native.Nat.{◌+◌, ◌*◌, ◌-◌}
use Rattle.walk.proofs.examine.+cut_examine.Given as goal

abbrev pub decreases-cut : goal.decreases-cut
decreases-cut g l = 2 * (l.k - l.cell.level)

abbrev pub decreases-examine : goal.decreases-examine
decreases-examine g l = 2 * (l.k - l.cell.level) + 1
