-- `probe::refusals::check_sheet` meets its contract: the rows 1 to 4, then 6, or the weight.
use mathlib.Core.Path.{◌≡◌, sym, ◌∙◌, ap}
use native.Mathlib.Omega.{arith}
use borrow.Author.Tests.{leb-false}
use Prim.Native.Nat.{◌^◌}
use Rattle.page.specs.Weight.{weight}
use Rattle.page.specs.Steps.{range_refusal}
use Rattle.page.specs.Numbers.{answer, by_number}
use Rattle.page.proofs.Rows.{check_rows, range_passed, heavy, not_heavy, rest}
use Rattle.cells.specs.Sheet.{the_sheet}
use Rattle.page.proofs.Refused.{refused_first, passed_none}
use Rattle.probe.proofs.refusals.check_sheet.Goals as goal

pub returns-in_err-check_ranges : goal.returns-in_err-check_ranges
returns-in_err-check_ranges c =
    let S = the_sheet c.args.sheet in
    refused_first tt (weight S) _ (range_refusal S) _ (sym c.check_ranges.ensures ∙ c.in_err-check_ranges.was) c.from_residual.ensures.1 ∙ ap (λ n. answer n (weight S)) (sym (check_rows S))

pub weight-weight-requires : goal.weight-weight-requires
weight-weight-requires c = let S = the_sheet c.args.sheet in range_passed S (passed_none tt (range_refusal S) (sym c.check_ranges.ensures ∙ c.in_ok-check_ranges.was))

pub returns-then-weight-eq-CEILING : goal.returns-then-weight-eq-CEILING
unfolding by_number
returns-then-weight-eq-CEILING c =
    let S = the_sheet c.args.sheet in
    let none = passed_none tt (range_refusal S) (sym c.check_ranges.ensures ∙ c.in_ok-check_ranges.was) in
    rw (check_rows S ∙ rest _ none, heavy S c.weight-weight.ensures (omega arith))

pub returns : goal.returns
returns c =
    let S = the_sheet c.args.sheet in
    let none = passed_none tt (range_refusal S) (sym c.check_ranges.ensures ∙ c.in_ok-check_ranges.was) in
    let light = not_heavy S c.weight-weight.ensures c.if-weight-eq-CEILING.false in
    let whole : c.weight-weight.result ≡ weight S = let h = leb-false (2 ^ 62) (weight S) light in omega arith in
    rw (check_rows S ∙ rest _ none, light, whole)
