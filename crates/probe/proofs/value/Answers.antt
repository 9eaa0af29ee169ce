-- `probe::value` meets its contract: F at a point is the value there of the table of scaled coefficients.
use mathlib.Core.Path.{sym, ◌∙◌, ap}
use native.Mathlib.Omega.{arith}
use mir.Facts.{to_z-of_z}
use Rattle.std.specs.Prelude.{Ok}
use Rattle.numbers.proofs.Machine.{read64}
use Rattle.page.specs.Sheet.{sheet_of}
use Rattle.page.specs.Refusals.{refusal, at_point}
use Rattle.page.proofs.Rows.{point_passed}
use Rattle.page.proofs.Cells.{point_limit}
use Rattle.page.proofs.Refused.{refused_same, passed_none}
use Rattle.cells.proofs.Widening.{scalable}
use Rattle.cells.proofs.Making.{valuable, value_is}
use Rattle.probe.specs.Answers.{valued}
use Rattle.probe.proofs.Promises.{value_kept}
use Rattle.probe.proofs.value.Goals as goal

pub returns-in_err-check_point : goal.returns-in_err-check_point
unfolding valued
returns-in_err-check_point c =
    let S = sheet_of c.args.d c.args.coefficients.now c.args.x c.args.y c.args.s c.args.k in
    let tried = rw (to_z-of_z c.ranges.x, to_z-of_z c.ranges.y, to_z-of_z c.ranges.u, to_z-of_z c.ranges.v) at c.check_point.ensures in
    value_kept S c.args.u c.args.v (refused_same tt _ _ (refusal (at_point S c.args.u c.args.v)) (sym tried ∙ c.in_err-check_point.was) c.from_residual.ensures.1)

pub scaled_form-form-requires : goal.scaled_form-form-requires
scaled_form-form-requires c =
    let S = sheet_of c.args.d c.args.coefficients.now c.args.x c.args.y c.args.s c.args.k in
    let tried = rw (to_z-of_z c.ranges.x, to_z-of_z c.ranges.y, to_z-of_z c.ranges.u, to_z-of_z c.ranges.v) at c.check_point.ensures in
    scalable {S = S} (point_passed S c.args.u c.args.v (passed_none tt (refusal (at_point S c.args.u c.args.v)) (sym tried ∙ c.in_ok-check_point.was))).0

pub value_at-z-requires : goal.value_at-z-requires
value_at-z-requires c =
    let S = sheet_of c.args.d c.args.coefficients.now c.args.x c.args.y c.args.s c.args.k in
    let tried = rw (to_z-of_z c.ranges.x, to_z-of_z c.ranges.y, to_z-of_z c.ranges.u, to_z-of_z c.ranges.v) at c.check_point.ensures in
    let passed = point_passed S c.args.u c.args.v (passed_none tt (refusal (at_point S c.args.u c.args.v)) (sym tried ∙ c.in_ok-check_point.was)) in
    let l = point_limit S c.args.u c.args.v passed.1 in
    simp (to_z-of_z c.ranges.u, to_z-of_z c.ranges.v) (valuable {S = S} passed.0 c.scaled_form-form.ensures _ _ (omega (arith, l.0, l.1)) (omega (arith, l.0, l.1)))

pub returns : goal.returns
unfolding valued
returns c =
    let S = sheet_of c.args.d c.args.coefficients.now c.args.x c.args.y c.args.s c.args.k in
    let tried = rw (to_z-of_z c.ranges.x, to_z-of_z c.ranges.y, to_z-of_z c.ranges.u, to_z-of_z c.ranges.v) at c.check_point.ensures in
    let none = passed_none tt (refusal (at_point S c.args.u c.args.v)) (sym tried ∙ c.in_ok-check_point.was) in
    let e = read64 c.value_at-z.result c.value_at-z.type_inv ∙ (rw (to_z-of_z c.ranges.u, to_z-of_z c.ranges.v) at c.value_at-z.ensures)
    ∙ value_is {S = S} (point_passed S c.args.u c.args.v none).0 c.scaled_form-form.ensures c.args.u c.args.v in
    value_kept S c.args.u c.args.v (rw none (ap Ok e))
