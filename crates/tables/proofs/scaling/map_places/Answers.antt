-- `scaling::map_places` meets its contract: row by row, each of the old numbers.
use native.Mathlib.Omega.{arith}
use Rattle.tables.proofs.Mapping.{mapping_start, mapping_inside, mapping_old, mapping_next, mapping_end}
use Rattle.tables.proofs.scaling.map_places.Goals as goal

pub loop-a-init : goal.loop-a-init
loop-a-init g c = mapping_start

pub map_row-requires-clause-inside : goal.map_row-requires-clause-inside
map_row-requires-clause-inside g c = mapping_inside c.loop-a.invariant (omega arith) c.requires.small.0 c.requires.small.1

pub map_row-requires-clause-ready : goal.map_row-requires-clause-ready
map_row-requires-clause-ready g c = λ b l. rw (mapping_old c.loop-a.invariant b) (c.requires.ready c.loop-a.a b (omega arith))

pub overflow_add-first-in-loop-a : goal.overflow_add-first-in-loop-a
overflow_add-first-in-loop-a g c = let r = mapping_inside c.loop-a.invariant (omega arith) c.requires.small.0 c.requires.small.1 in let l = c.loop-a.invariant.setting.long in omega arith

pub loop-a-preserved : goal.loop-a-preserved
loop-a-preserved g c = mapping_next c.loop-a.invariant (omega arith) c.map_row.ensures

pub returns-2 : goal.returns-2
returns-2 g c = mapping_end (mapping_next c.loop-a.invariant (omega arith) c.map_row.ensures) (omega arith) c.requires.small.0
