-- `scaling::halve` meets its contract: what the rule gives at each place.
use Rattle.std.proofs.Common.{rules}
use Rattle.tables.proofs.scaling.halve.Goals as goal

pub returns : goal.returns
returns c = let m = c.map_places.ensures in record { long = m.long; each = λ a b l. let e = m.each a b l in search rules; rest = m.rest }
