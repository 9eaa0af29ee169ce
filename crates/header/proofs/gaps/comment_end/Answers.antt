-- `header::gaps::comment_end` meets its contract: the place of the first byte that ends the comment.
use Rattle.std.proofs.Common.{◌≡◌, ◌∙◌, drop, length, rules, tests}
use Rattle.std.specs.List.{position_or_len}
use Rattle.std.proofs.lemmas.Iterator.{YieldsList-from_slice}
use Rattle.std.proofs.lemmas.Iterator.Search.{position_from_yields_List}
use Rattle.pbm.specs.Reading.{ends_comment}
use Rattle.header.proofs.Firsts.{all_left, told, comment_some, comment_none}
use Rattle.header.proofs.gaps.comment_end.Goals as goal

pub returns-in_err-length : goal.returns-in_err-length
returns-in_err-length c =
    let rest = drop c.args.at c.args.text.now in
    let whole = YieldsList-from_slice rest (c.iter.ensures.rest ∙ all_left c.args.text.now c.args.at) in
    let e : c.position.result ≡ told (position_or_len ends_comment rest) (length rest) = position_from_yields_List ends_comment _ _ c.position.result c.position.ensures.ran whole (λ x b q k. search (rules, tests)) in
    rw c.from_residual.ensures (comment_none c.args.text.now c.args.at e c.in_err-length.was)

pub returns : goal.returns
returns c =
    let rest = drop c.args.at c.args.text.now in
    let whole = YieldsList-from_slice rest (c.iter.ensures.rest ∙ all_left c.args.text.now c.args.at) in
    let e : c.position.result ≡ told (position_or_len ends_comment rest) (length rest) = position_from_yields_List ends_comment _ _ c.position.result c.position.ensures.ran whole (λ x b q k. search (rules, tests)) in
    comment_some c.args.text.now c.args.at e c.requires c.in_ok-length.was
