-- `local::measure::flat_range` meets its contract: the one place of a table of degree 0 is both bounds, and there is no bend.
use Rattle.numbers.proofs.Machine.{read64}
use Rattle.tables.specs.Table.{at}
use Rattle.forms.specs.Bounds.{mode_of}
use Rattle.local.proofs.Bounding.{one_place}
use Rattle.local.proofs.measure.flat_range.Goals as goal

pub returns : goal.returns
returns c = let s = c.args in rw (read64 (at s.places.now 0) c.centre-1.given) (one_place s.places.now (mode_of s.mode))
