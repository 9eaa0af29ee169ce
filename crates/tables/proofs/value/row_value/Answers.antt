-- `value::row_value` meets its contract: Horner's rule, from the last place down.
use mathlib.Core.Path.{◌≡◌, ◌∙◌}
use Prim.Native.Nat.{◌+◌, ◌-◌}
use native.Mathlib.Omega.{arith}
use borrow.Author.Rules.{rules}
use mir.Syntax.{w64}
use mir.Val.{to_z, of_z, SFits}
use mir.Facts.{to_z-of_z}
use Rattle.numbers.proofs.Machine.{read64}
use Rattle.tables.specs.Table.{at, row_of}
use Rattle.tables.proofs.Values.{Descent, descent_start, descent_room, descent_next, descent_end}
use Rattle.tables.proofs.value.row_value.Goals.{After-combine-z}
use Rattle.tables.proofs.value.row_value.Goals as goal

pub loop-j-init : goal.loop-j-init
loop-j-init c = descent_start

pub combine-z-requires : goal.combine-z-requires
combine-z-requires c =
    let f : SFits w64 (at c.args.places.now (c.args.first + c.loop-j.j)) = search rules in
    rw (to_z-of_z f, to_z-of_z c.ranges.v) (descent_room (omega arith) c.requires.wide.1 c.requires.wide.0 c.requires.light (rw (to_z-of_z c.ranges.v) at c.loop-j.invariant))

-- one step down
down : (c : After-combine-z) → Descent (row_of c.args.places.now c.args.first) (to_z w64 (of_z w64 c.args.v)) c.args.n (to_z w64 (of_z w64 c.combine-z.result)) c.loop-j.j
down c =
    let f : SFits w64 (at c.args.places.now (c.args.first + c.loop-j.j)) = search rules in
    descent_next (omega arith) (read64 c.combine-z.result c.combine-z.type_inv ∙ (rw (to_z-of_z f) at c.combine-z.ensures)) c.loop-j.invariant

pub loop-j-preserved : goal.loop-j-preserved
loop-j-preserved c = let e : c.loop-j.j - 1 + 1 ≡ c.loop-j.j = omega arith in rw e (down (goal.at.loop-j-preserved c).After-combine-z)

pub returns-2 : goal.returns-2
returns-2 c = descent_end (omega arith) (rw (to_z-of_z c.ranges.v) at (down (goal.at.returns-2 c).After-combine-z))
