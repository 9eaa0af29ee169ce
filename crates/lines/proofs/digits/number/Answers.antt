-- `lines::digits::number` meets its contract: by its one byte, or by the sign and the digits.
use Rattle.std.proofs.Common.{◌≡◌, ◌∙◌, sym, ap, rules, Err}
use Rattle.lines.specs.Steps.{decimal_in}
use Rattle.lines.proofs.Numerals.{one_byte, no_sign, after_sign, digits_bad, digits_minus, digits_plain}
use Rattle.lines.proofs.digits.number.Goals as goal

pub returns-then-field-eq1 : goal.returns-then-field-eq1
returns-then-field-eq1 c = c.single.ensures ∙ one_byte _ _ c.if-field-eq1.true

pub returns-in_err-written : goal.returns-in_err-written
returns-in_err-written c =
    let told : c.from_residual.result ≡ Err c.in_err-written.field-0.0 = search rules in
    let sign = sym c.minus.ensures ∙ c.if-minus.true in
    told ∙ digits_bad c.args.negative c.args.field.now (ap decimal_in (sym (after_sign c.args.field.now sign)) ∙ sym c.written.ensures ∙ c.in_err-written.was)

pub returns-then-minus : goal.returns-then-minus
returns-then-minus c =
    let sign = sym c.minus.ensures ∙ c.if-minus.true in
    c.below_zero.ensures ∙ digits_minus c.args.negative c.args.field.now sign (ap decimal_in (sym (after_sign c.args.field.now sign)) ∙ sym c.written.ensures ∙ c.in_ok-written.was)

pub returns-in_err-written-2 : goal.returns-in_err-written-2
returns-in_err-written-2 c =
    let told : c.from_residual-in_err-written-2.result ≡ Err c.in_err-written-2.field-0.0 = search rules in
    let sign = sym c.minus.ensures ∙ c.if-minus.false in
    told ∙ digits_bad c.args.negative c.args.field.now (ap decimal_in (no_sign c.args.field.now sign) ∙ sym c.written-2.ensures ∙ c.in_err-written-2.was)

pub returns : goal.returns
returns c =
    let sign = sym c.minus.ensures ∙ c.if-minus.false in
    c.signless.ensures ∙ digits_plain c.args.negative c.args.field.now sign (ap decimal_in (no_sign c.args.field.now sign) ∙ sym c.written-2.ensures ∙ c.in_ok-written-2.was)
