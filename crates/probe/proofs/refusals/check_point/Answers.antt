-- `probe::refusals::check_point` meets its contract: what `check` tries, and then row 8 by its two sides.
use mathlib.Core.Path.{◌≡◌, sym, ◌∙◌, ap}
use borrow.Author.Rules.{rules}
use mir.Syntax.{w32}
use mir.Val.{to_z, of_z}
use Rattle.page.specs.Weight.{weight}
use Rattle.page.specs.Refusals.{refusal, to_check}
use Rattle.page.specs.Numbers.{passed, by_number}
use Rattle.page.proofs.Rows.{point_rows, check_passed, rest}
use Rattle.cells.specs.Sheet.{the_sheet}
use Rattle.page.proofs.Refused.{refused_first, passed_none}
use Rattle.probe.proofs.refusals.check_point.Goals as goal
use Rattle.probe.proofs.refusals.check_point.Goals.{then-outside-via-then-outside, then-outside-via-else-outside+then-outside-2}

pub returns-in_err-check_sheet : goal.returns-in_err-check_sheet
returns-in_err-check_sheet c =
    let S = the_sheet c.args.sheet in
    refused_first (weight S) tt _ (refusal (to_check S)) _ (sym c.check_sheet.ensures ∙ c.in_err-check_sheet.was) c.from_residual.ensures.1 ∙ ap passed (sym (point_rows S c.args.u c.args.v))

pub outside-requires : goal.outside-requires
outside-requires c =
    let S = the_sheet c.args.sheet in
    let x : to_z w32 (of_z w32 c.args.sheet.x) ≡ c.args.sheet.x = search rules in
    let r = (check_passed S (passed_none (weight S) (refusal (to_check S)) (sym c.check_sheet.ensures ∙ c.in_ok-check_sheet.was))).ranges in
    rw x (r.corner_x, r.side, r.depth)

pub outside-requires-else-outside : goal.outside-requires-else-outside
outside-requires-else-outside c =
    let S = the_sheet c.args.sheet in
    let y : to_z w32 (of_z w32 c.args.sheet.y) ≡ c.args.sheet.y = search rules in
    let r = (check_passed S (passed_none (weight S) (refusal (to_check S)) (sym c.check_sheet.ensures ∙ c.in_ok-check_sheet.was))).ranges in
    rw y (r.corner_y, r.side, r.depth)

pub returns-then-outside : goal.returns-then-outside
unfolding by_number
returns-then-outside c =
    let S = the_sheet c.args.sheet in
    let none = passed_none (weight S) (refusal (to_check S)) (sym c.check_sheet.ensures ∙ c.in_ok-check_sheet.was) in
    rw (point_rows S c.args.u c.args.v ∙ rest _ none) (elim c.then-outside.branch [ then-outside-via-then-outside w ↦ search rules | then-outside-via-else-outside+then-outside-2 w ↦ search rules ])

pub returns : goal.returns
returns c =
    let S = the_sheet c.args.sheet in
    let none = passed_none (weight S) (refusal (to_check S)) (sym c.check_sheet.ensures ∙ c.in_ok-check_sheet.was) in
    rw (point_rows S c.args.u c.args.v ∙ rest _ none) (search rules)
