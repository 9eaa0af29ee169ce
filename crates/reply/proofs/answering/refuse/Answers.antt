-- `reply::answering::refuse` meets its contract: the number that is written is the refusal's.
use Rattle.std.proofs.Common.{subst}
use Rattle.page.specs.ListingText.{refused_line}
use Rattle.writing.specs.Steps.{Put}
use Rattle.reply.proofs.answering.refuse.Goals as goal

pub returns : goal.returns
returns c =
    let e = c.args.refused in
    subst (λ n. Put 0 (refused_line n e.line e.field) c.args.place.now c.write_refusal.new.place c.write_refusal.result) c.number-number.ensures c.write_refusal.ensures
