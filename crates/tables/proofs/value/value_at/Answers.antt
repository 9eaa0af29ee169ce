-- `value::value_at` meets its contract: Horner's rule over the rows' values, from the last row up.
use mathlib.Core.Path.{◌≡◌, ◌∙◌}
use Prim.Native.Nat.{◌+◌, ◌-◌}
use native.Mathlib.Omega.{arith}
use mir.Syntax.{w64}
use mir.Val.{to_z, of_z}
use mir.Facts.{to_z-of_z}
use Rattle.numbers.proofs.Machine.{read64}
use Rattle.tables.specs.Value.{row_value}
use Rattle.tables.proofs.Values.{Rising, rising_start, rising_row, rising_fits, rising_room, rising_next, rising_end}
use Rattle.tables.proofs.value.value_at.Goals.{In-loop-n, After-row_value}
use Rattle.tables.proofs.value.value_at.Goals as goal

pub loop-n-init : goal.loop-n-init
loop-n-init c = rising_start

pub overflow_sub-first : goal.overflow_sub-first
overflow_sub-first c = let r = rising_row (omega arith) c.loop-n.invariant in omega arith

-- the rows so far, by the numbers themselves
risen : (c : In-loop-n) → Rising c.args.places.now c.args.d c.args.u c.args.v (to_z w64 c.loop-n.z-bits) c.loop-n.first c.loop-n.n
risen c = rw (to_z-of_z c.ranges.u, to_z-of_z c.ranges.v) at c.loop-n.invariant

pub row_value-requires : goal.row_value-requires
row_value-requires c = rw (to_z-of_z c.ranges.v) (rising_fits (omega arith) (risen (goal.at.row_value-requires c).In-loop-n) c.requires)

-- the value of the next row
row_is : (c : After-row_value) → to_z w64 (of_z w64 c.row_value.result) ≡ row_value c.args.places.now (c.loop-n.first - (c.loop-n.n + 1)) c.loop-n.n c.args.v
row_is c = read64 c.row_value.result c.row_value.type_inv ∙ (rw (to_z-of_z c.ranges.v) at c.row_value.ensures)

pub combine-z-requires : goal.combine-z-requires
combine-z-requires c = let a = goal.at.combine-z-requires c in rw (to_z-of_z c.ranges.u, row_is a.After-row_value) (rising_room (omega arith) (risen a.In-loop-n) c.requires)

pub loop-n-preserved : goal.loop-n-preserved
loop-n-preserved c =
    let a = goal.at.loop-n-preserved c in
    rw (to_z-of_z c.ranges.u, to_z-of_z c.ranges.v) (rising_next (omega arith) (risen a.In-loop-n) (read64 c.combine-z.result c.combine-z.type_inv ∙ (rw (to_z-of_z c.ranges.u, row_is a.After-row_value) at c.combine-z.ensures)))

pub returns-2 : goal.returns-2
returns-2 c =
    let a = goal.at.returns-2 c in
    rising_end (omega arith) (rising_next (omega arith) (risen a.In-loop-n) (read64 c.combine-z.result c.combine-z.type_inv ∙ (rw (to_z-of_z c.ranges.u, row_is a.After-row_value) at c.combine-z.ensures)))
