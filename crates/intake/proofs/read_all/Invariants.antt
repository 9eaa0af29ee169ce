-- What was read lies within the place and is what came first, and what is left of the place falls.
use Rattle.std.proofs.Common.{length, ◌-◌, ◌≤◌, take}
use Rattle.std.specs.Io.KnownBytes.{Consumes}
use Rattle.intake.proofs.read_all.Given as goal

abbrev pub invariant-loop-at : goal.invariant-loop-at
invariant-loop-at g l = (l.at ≤ length l.place) × Consumes (g.R.Read.remaining l.fn.from) (g.R.Read.remaining l.from) (take l.at l.place)

abbrev pub decreases-loop-at : goal.decreases-loop-at
decreases-loop-at g l = length l.fn.place - l.at
