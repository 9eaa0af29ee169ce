-- `scanning::digits::among` meets its contract, by the two tests.
use mathlib.Core.Path.{sym, ◌∙◌, ap}
use mathlib.Core.Bool.{◌||◌}
use Rattle.pbm.specs.Reading.{is_white}
use Rattle.scanning.proofs.digits.among.Goals as goal

pub returns-else-is_bit : goal.returns-else-is_bit
returns-else-is_bit c = c.is_white.ensures ∙ ap (λ b. b || is_white c.args.byte) (sym c.if-is_bit.false ∙ c.is_bit.ensures)
