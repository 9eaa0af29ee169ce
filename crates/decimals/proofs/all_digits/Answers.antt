-- `decimals::all_digits` meets its contract: `all` goes over the bytes as the definition does.
use Rattle.std.proofs.Common.{◌∙◌, ◌&&◌, refl, rules, tests}
use Rattle.std.specs.List.{list_all}
use Rattle.std.proofs.lemmas.Iterator.{YieldsList-from_slice}
use Rattle.std.proofs.lemmas.Iterator.Search.{all_from_yields_List}
use Rattle.std.proofs.lemmas.List.Recursion.{same_from_clauses}
use Rattle.page.specs.SheetLine.{is_digit, all_digits}
use Rattle.decimals.proofs.all_digits.Goals as goal

pub returns : goal.returns
unfolding all_digits
returns c =
    let bytes = c.args.bytes.now in
    all_from_yields_List is_digit _ _ _ c.all.ensures.ran (YieldsList-from_slice bytes cc) (λ x b q k. search (rules, tests))
    ∙ same_from_clauses (list_all is_digit) all_digits (λ b r. is_digit b && r) refl (λ _ _. refl) (λ _ _. refl) bytes
