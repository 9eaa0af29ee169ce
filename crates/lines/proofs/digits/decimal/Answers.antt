-- `lines::digits::decimal` meets its contract: of more digits than one the first is not 0.
use Rattle.std.proofs.Common.{◌∙◌, arith}
use Rattle.lines.proofs.Numerals.{no_leading_zero}
use Rattle.lines.proofs.digits.decimal.Goals as goal
use Rattle.lines.proofs.digits.decimal.Goals.{else-count-gt1-via-then-count-gt1+else-digits-eq48, else-count-gt1-via-else-count-gt1}

pub returns : goal.returns
returns c =
    c.all_digits.ensures
    ∙ no_leading_zero c.args.digits.now c.if-count-eq0.false
    (λ g z. elim c.else-count-gt1.branch [ else-count-gt1-via-then-count-gt1+else-digits-eq48 w ↦ w.if-digits-eq48.false z | else-count-gt1-via-else-count-gt1 w ↦ absurd (omega (arith, w.if-count-gt1.false)) ])
