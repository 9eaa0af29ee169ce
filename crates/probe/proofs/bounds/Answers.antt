-- `probe::bounds` meets its contract: the range of the cell's local form gives the page's verdict.
use mathlib.Core.Path.{sym, ◌∙◌, ap}
use mir.Facts.{to_z-of_z}
use Rattle.std.specs.Prelude.{Ok}
use Rattle.tables.specs.Table.{held}
use Rattle.local.specs.Range.{judged_by}
use Rattle.page.specs.Sheet.{sheet_of, mode_of}
use Rattle.page.specs.Refusals.{in_cell, refusal}
use Rattle.page.proofs.Rows.{cell_passed}
use Rattle.cells.specs.Cell.{CellForm}
use Rattle.page.proofs.Refused.{refused_same, passed_none}
use Rattle.cells.proofs.Making.{held_form}
use Rattle.cells.proofs.Forms.{cell_light, verdict_by}
use Rattle.probe.specs.Answers.{bounded}
use Rattle.probe.proofs.Promises.{bounds_kept}
use Rattle.probe.proofs.bounds.Goals as goal

pub returns-in_err-check_cell : goal.returns-in_err-check_cell
unfolding bounded
returns-in_err-check_cell c =
    let a = c.args in let S = sheet_of a.d a.coefficients.now a.x a.y a.s a.k in
    let tried = rw (to_z-of_z c.ranges.x, to_z-of_z c.ranges.y) at c.check_cell.ensures in
    bounds_kept S a.mode a.j a.p a.q (refused_same tt _ _ (refusal (in_cell S a.mode a.j a.p a.q)) (sym tried ∙ c.in_err-check_cell.was) c.from_residual.ensures.1)

pub cell_form-form-requires : goal.cell_form-form-requires
cell_form-form-requires c =
    let a = c.args in let S = sheet_of a.d a.coefficients.now a.x a.y a.s a.k in
    let tried = rw (to_z-of_z c.ranges.x, to_z-of_z c.ranges.y) at c.check_cell.ensures in
    let passed = cell_passed S a.mode a.j a.p a.q (passed_none tt (refusal (in_cell S a.mode a.j a.p a.q)) (sym tried ∙ c.in_ok-check_cell.was)) in
    rw (to_z-of_z c.ranges.x, to_z-of_z c.ranges.y) (passed.0, passed.2)

pub range_on-requires : goal.range_on-requires
range_on-requires c =
    let a = c.args in let S = sheet_of a.d a.coefficients.now a.x a.y a.s a.k in
    let tried = rw (to_z-of_z c.ranges.x, to_z-of_z c.ranges.y) at c.check_cell.ensures in
    let passed = cell_passed S a.mode a.j a.p a.q (passed_none tt (refusal (in_cell S a.mode a.j a.p a.q)) (sym tried ∙ c.in_ok-check_cell.was)) in
    let form : CellForm S a.j a.p a.q c.cell_form-form.result.places = held_form passed.0 passed.2 (rw (to_z-of_z c.ranges.x, to_z-of_z c.ranges.y) at c.cell_form-form.ensures) in
    cell_light S a.j a.p a.q form

pub returns : goal.returns
unfolding bounded
returns c =
    let a = c.args in let S = sheet_of a.d a.coefficients.now a.x a.y a.s a.k in
    let tried = rw (to_z-of_z c.ranges.x, to_z-of_z c.ranges.y) at c.check_cell.ensures in
    let none = passed_none tt (refusal (in_cell S a.mode a.j a.p a.q)) (sym tried ∙ c.in_ok-check_cell.was) in
    let passed = cell_passed S a.mode a.j a.p a.q none in
    let form : CellForm S a.j a.p a.q c.cell_form-form.result.places = held_form passed.0 passed.2 (rw (to_z-of_z c.ranges.x, to_z-of_z c.ranges.y) at c.cell_form-form.ensures) in
    let v = c.judge-verdict.ensures ∙ ap judged_by c.range_on.ensures ∙ verdict_by S a.j a.p a.q (held c.cell_form-form.result.places a.d) form.each (mode_of a.mode) in
    bounds_kept S a.mode a.j a.p a.q (rw none (ap Ok v))
