-- `reply::picture::finest` meets its contract: 1 << 2k is 4^k.
use borrow.Author.Rules.{rules}
use Rattle.algebra.proofs.Power.{four_shifted}
use Rattle.reply.proofs.picture.finest.Goals as goal

pub overflow_mul-result : goal.overflow_mul-result
overflow_mul-result c = search rules

pub overflow_cast-result : goal.overflow_cast-result
overflow_cast-result c = search rules

pub overflow_shl-result : goal.overflow_shl-result
overflow_shl-result c = search rules

pub returns : goal.returns
returns c = four_shifted c.args.k c.requires
