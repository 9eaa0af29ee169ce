use mathlib.Core.Path.{◌≡◌}
use Rattle.forms.specs.Plane.{along}
use Rattle.tables.specs.Table.{held_from}
use Rattle.tables.proofs.Setting.{Setting}
use Rattle.tables.proofs.rows.move_rows.Given as goal

abbrev pub invariant-loop-i : goal.invariant-loop-i
invariant-loop-i l = Setting l.start l.d (λ a b z. z ≡ along l.d (held_from l.initial.places l.start l.d) l.s a b) l.initial.places l.places l.first l.i
