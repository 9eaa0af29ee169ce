-- `reply::picture::picture_place` gives zeros.
use mathlib.Core.Path.{refl}
use Rattle.reply.specs.Answers.{fresh_picture}
use Rattle.reply.proofs.picture.picture_place.Goals as goal

pub returns : goal.returns
unfolding fresh_picture
returns c = refl
