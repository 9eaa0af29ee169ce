-- `probe::check` meets its contract: the sheet's weight, and its spare places.
use mathlib.Core.Path.{sym, ◌∙◌, ap, ap₂}
use Prim.Native.Nat.{ℕ, ◌-◌}
use native.Mathlib.Omega.{arith}
use mir.Facts.{to_z-of_z}
use Rattle.std.specs.Prelude.{Ok}
use Rattle.algebra.specs.Digits.{digits}
use Rattle.page.specs.Sheet.{sheet_of}
use Rattle.page.specs.Weight.{weight}
use Rattle.page.specs.Refusals.{refusal, to_check}
use Rattle.page.proofs.Rows.{check_passed}
use Rattle.page.proofs.Refused.{refused_same, passed_none, passed_values}
use Rattle.probe.specs.declared.Checked.{Checked}
use Rattle.probe.specs.Answers.{checked}
use Rattle.probe.proofs.Promises.{check_kept}
use Rattle.probe.proofs.check.Goals as goal

pub returns-in_err-weight : goal.returns-in_err-weight
unfolding checked
returns-in_err-weight c =
    let S = sheet_of c.args.d c.args.coefficients.now c.args.x c.args.y c.args.s c.args.k in
    let tried = rw (to_z-of_z c.ranges.x, to_z-of_z c.ranges.y) at c.check_sheet.ensures in
    check_kept S (refused_same (weight S) _ _ (refusal (to_check S)) (sym tried ∙ c.in_err-weight.was) c.from_residual.ensures.1)

pub spare_places-spare-requires : goal.spare_places-spare-requires
spare_places-spare-requires c =
    let S = sheet_of c.args.d c.args.coefficients.now c.args.x c.args.y c.args.s c.args.k in
    let tried = rw (to_z-of_z c.ranges.x, to_z-of_z c.ranges.y) at c.check_sheet.ensures in let passed = sym tried ∙ c.in_ok-weight.was in
    let a = check_passed S (passed_none (weight S) (refusal (to_check S)) passed) in let w = passed_values (weight S) (refusal (to_check S)) passed in omega (arith, a.light)

pub returns : goal.returns
unfolding checked
returns c =
    let S = sheet_of c.args.d c.args.coefficients.now c.args.x c.args.y c.args.s c.args.k in
    let tried = rw (to_z-of_z c.ranges.x, to_z-of_z c.ranges.y) at c.check_sheet.ensures in let passed = sym tried ∙ c.in_ok-weight.was in
    let w = passed_values (weight S) (refusal (to_check S)) passed in
    check_kept S (rw (passed_none (weight S) (refusal (to_check S)) passed) (ap Ok (ap₂ record_of w (c.spare_places-spare.ensures ∙ ap (λ x. 62 - digits x) w))))
  where
    record_of : ℕ → ℕ → Checked
    record_of w n = record { weight = w; spare = n }
