-- `numbers::power` meets its contract: the shifted bit stands for 2^n.
use Rattle.numbers.proofs.Ceiling.{power_read}
use Rattle.numbers.proofs.power.Goals as goal

pub returns : goal.returns
returns c = power_read c.args.n c.requires
