-- `numbers::capped_power` meets its contract: the lesser of n and 62 is shifted into place.
use Rattle.numbers.proofs.Ceiling.{power_capped}
use Rattle.numbers.proofs.capped_power.Goals as goal

pub returns : goal.returns
returns c = power_capped c.args.n c.min.result c.min.ensures
