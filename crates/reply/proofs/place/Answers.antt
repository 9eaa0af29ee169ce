-- `reply::place` gives zeros.
use mathlib.Core.Path.{refl}
use Rattle.reply.specs.Answers.{fresh}
use Rattle.reply.proofs.place.Goals as goal

pub returns : goal.returns
unfolding fresh
returns c = refl
