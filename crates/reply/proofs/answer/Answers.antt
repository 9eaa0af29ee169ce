-- `reply::answer` keeps its promise: it is what is told of a text by its listing.
use Rattle.page.specs.ListingText.{written_text}
use Rattle.reply.proofs.answer.Goals as goal

pub returns : goal.returns
unfolding written_text
returns c = c.told.ensures
