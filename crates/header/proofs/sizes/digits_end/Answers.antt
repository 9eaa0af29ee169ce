-- `header::sizes::digits_end` meets its contract: the place of the first byte that is no digit.
use Rattle.std.proofs.Common.{◌≡◌, ◌∙◌, not, drop, length, rules, tests}
use Rattle.std.specs.List.{position_or_len}
use Rattle.std.proofs.lemmas.Iterator.{YieldsList-from_slice}
use Rattle.std.proofs.lemmas.Iterator.Search.{position_from_yields_List}
use Rattle.page.specs.SheetLine.{is_digit}
use Rattle.header.proofs.Firsts.{all_left, told, digits_some, digits_none}
use Rattle.header.proofs.sizes.digits_end.Goals as goal

pub returns-in-Some : goal.returns-in-Some
returns-in-Some c =
    let rest = drop c.args.at c.args.text.now in
    let whole = YieldsList-from_slice rest (c.iter.ensures.rest ∙ all_left c.args.text.now c.args.at) in
    let e : c.position.result ≡ told (position_or_len (λ b. not (is_digit b)) rest) (length rest) = position_from_yields_List (λ b. not (is_digit b)) _ _ c.position.result c.position.ensures.ran whole (λ x b q k. search (rules, tests)) in
    digits_some c.args.text.now c.args.at e c.requires c.in-Some.is

pub returns-in-None : goal.returns-in-None
returns-in-None c =
    let rest = drop c.args.at c.args.text.now in
    let whole = YieldsList-from_slice rest (c.iter.ensures.rest ∙ all_left c.args.text.now c.args.at) in
    let e : c.position.result ≡ told (position_or_len (λ b. not (is_digit b)) rest) (length rest) = position_from_yields_List (λ b. not (is_digit b)) _ _ c.position.result c.position.ensures.ran whole (λ x b q k. search (rules, tests)) in
    digits_none c.args.text.now c.args.at e c.requires c.in-None.is
