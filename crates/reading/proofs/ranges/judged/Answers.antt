-- `ranges::judged` meets its contract: the degree first, and then the rows of a call that takes a mode.
use Rattle.std.proofs.Common.{◌≡◌, sym, ◌∙◌, ap, arith, rules, to_z, of_z, w32, Ok, Err}
use Rattle.page.specs.declared.Refusal.TheVariants.{Degree}
use Rattle.page.specs.Sheet.{count, sheet_of}
use Rattle.page.specs.Steps.{mode_refusal}
use Rattle.page.specs.Numbers.{passed}
use Rattle.page.proofs.Numbers.{named_by_number}
use Rattle.page.proofs.TextRows.{read_1}
use Rattle.reading.specs.Steps.{said_by}
use Rattle.reading.proofs.Judging.{judged_refused, judged_accepted, number_is, reading_is}
use Rattle.reading.proofs.ranges.judged.Goals as goal
use lib.ListN.{take}

pub returns-then-d-gt8 : goal.returns-then-d-gt8
returns-then-d-gt8 c ts held =
    let w = said_by c.args.head ts in
    ap Err c.refused.ensures ∙ judged_refused w (read_1 w (omega (arith, c.if-d-gt8.true))) (ap Err (named_by_number Degree))

pub returns-in-Err : goal.returns-in-Err
returns-in-Err c ts held =
    let h = c.args.head in
    let same-x : to_z w32 (of_z w32 h.x) ≡ h.x = search rules in
    let same-y : to_z w32 (of_z w32 h.y) ≡ h.y = search rules in
    let told : c.check_mode.result ≡ passed (mode_refusal (sheet_of h.d (take (count h.d) c.gathered-coefficients.result) h.x h.y h.s h.k) h.mode) = rw (same-x, same-y, c.count-count.ensures) at c.check_mode.ensures in
    ap Err c.refused-in-Err.ensures ∙ judged_refused (said_by h ts) (number_is h c.args.values.now ts held (omega arith) c.gathered-coefficients.ensures) (sym told ∙ c.in-Err.is)

pub returns : goal.returns
returns c ts held =
    let h = c.args.head in
    let same-x : to_z w32 (of_z w32 h.x) ≡ h.x = search rules in
    let same-y : to_z w32 (of_z w32 h.y) ≡ h.y = search rules in
    let told : c.check_mode.result ≡ passed (mode_refusal (sheet_of h.d (take (count h.d) c.gathered-coefficients.result) h.x h.y h.s h.k) h.mode) = rw (same-x, same-y, c.count-count.ensures) at c.check_mode.ensures in
    rw (same-x, same-y)
    (ap Ok (reading_is h c.args.values.now ts held (omega arith) c.gathered-coefficients.ensures)
    ∙ judged_accepted (said_by h ts) (number_is h c.args.values.now ts held (omega arith) c.gathered-coefficients.ensures) (sym told ∙ c.in_default.is))
