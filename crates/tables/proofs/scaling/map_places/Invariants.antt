use Rattle.tables.proofs.Mapping.{Mapping}
use Rattle.tables.proofs.scaling.map_places.Given as goal

abbrev pub invariant-loop-a : goal.invariant-loop-a
invariant-loop-a g l = Mapping l.d (λ a b x z. goal.F-post g l.rule x a b z) l.initial.places l.places l.first l.a
