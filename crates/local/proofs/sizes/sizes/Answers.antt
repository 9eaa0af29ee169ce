-- `local::sizes::sizes` meets its contract: the sizes of the places that the loop has passed are added up.
use mathlib.Core.Path.{◌≡◌, refl, ◌∙◌, ap}
use native.Mathlib.Omega.{arith}
use borrow.Author.Rules.{rules}
use lib.IntN.{nat_abs}
use mir.Syntax.{w64}
use mir.Val.{to_z, of_z}
use Rattle.tables.specs.Table.{at}
use Rattle.local.proofs.Sums.{added_start, added_room, added_next, added_end}
use Rattle.local.proofs.sizes.sizes.Goals as goal

pub loop-at-init : goal.loop-at-init
loop-at-init c = added_start (λ n. nat_abs (at c.args.places.now n)) 1 c.args.count

pub size-sum-requires : goal.size-sum-requires
size-sum-requires c =
    let g = at c.args.places.now c.loop-at.at in
    let read : to_z w64 (of_z w64 g) ≡ g = search rules in
    rw read (let r = added_room c.loop-at.invariant (omega arith) {t = nat_abs g} refl in omega arith)

pub overflow_add-sum : goal.overflow_add-sum
overflow_add-sum c =
    let g = at c.args.places.now c.loop-at.at in
    let read : to_z w64 (of_z w64 g) ≡ g = search rules in
    let r = added_room c.loop-at.invariant (omega arith) (c.size-sum.ensures ∙ ap nat_abs read) in record { fits = omega arith }

pub loop-at-preserved : goal.loop-at-preserved
loop-at-preserved c =
    let g = at c.args.places.now c.loop-at.at in
    let read : to_z w64 (of_z w64 g) ≡ g = search rules in
    added_next c.loop-at.invariant (omega arith) (c.size-sum.ensures ∙ ap nat_abs read)

pub returns : goal.returns
returns c = added_end c.loop-at.invariant (omega arith)
