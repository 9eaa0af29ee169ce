-- `parts::Along` is moved by just the number that is given.
use mathlib.Core.Path.{subst}
use mir.Facts.{to_z-of_z}
use Rattle.tables.specs.Moves.{RowsMoved}
use Rattle.tables.proofs.parts.AlongVariable.shift.Goals as goal

pub returns : goal.returns
returns c = subst (λ s. RowsMoved c.args.start c.args.d s c.args.places.now c.move_rows.new.places) (to_z-of_z c.ranges.s) c.move_rows.ensures
