-- `lines::digits::written` meets its contract: what is decimal is of digits only.
use Rattle.std.proofs.Common.{◌∙◌, sym}
use Rattle.lines.proofs.Numerals.{digits_of}
use Rattle.lines.proofs.digits.written.Goals as goal

pub capped_amount-requires : goal.capped_amount-requires
capped_amount-requires c = digits_of c.args.digits.now (sym c.decimal.ensures ∙ c.if-not-decimal.false)

pub returns : goal.returns
returns c = rw (sym c.decimal.ensures ∙ c.if-not-decimal.false, c.capped_amount.ensures)
