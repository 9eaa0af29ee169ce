-- `reply::picture::depict` keeps its promise: it is what is told of a text by its picture.
use Rattle.pbm.specs.PictureText.{depicted_text}
use Rattle.reply.proofs.picture.depict.Goals as goal

pub returns : goal.returns
unfolding depicted_text
returns c = c.told.ensures
