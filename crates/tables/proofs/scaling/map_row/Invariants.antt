use Rattle.tables.specs.Table.{row_of}
use Rattle.tables.proofs.Setting.{RowMapping}
use Rattle.tables.proofs.scaling.map_row.Given as goal

abbrev pub invariant-loop-b : goal.invariant-loop-b
invariant-loop-b g l = RowMapping l.first l.n (λ b z. goal.F-post g l.rule (row_of l.initial.places l.first b) l.a b z) l.initial.places l.places l.b
