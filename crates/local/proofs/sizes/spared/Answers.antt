-- `local::sizes::spared` meets its contract: what the even rows spare that the loop has passed is added up.
use mathlib.Core.Path.{◌≡◌, sym}
use Prim.Native.Nat.{◌-◌}
use native.Mathlib.Omega.{arith}
use Rattle.algebra.proofs.Places.{row_start_zero}
use Rattle.local.specs.Range.{above_zero, below_zero, RowSparable}
use Rattle.local.proofs.Sums.{pair_first, pair_left, pair_right, pair_next, pair_end}
use Rattle.local.proofs.Sparing.{rows, rows_only, row_spared, rows_le, light_row, row_start_two, above_le, below_le}
use Rattle.local.proofs.sizes.spared.Goals as goal

pub spared_row-top-requires : goal.spared_row-top-requires
spared_row-top-requires c = light_row c.requires 0 (sym (row_start_zero c.args.d)) (omega arith) (omega arith) (omega arith)

pub overflow_mul-first : goal.overflow_mul-first
overflow_mul-first c = omega arith

pub overflow_add-first : goal.overflow_add-first
overflow_add-first c = omega arith

pub loop-a-init : goal.loop-a-init
loop-a-init c =
    let p = c.args.places.now in let d = c.args.d in let z = row_start_zero d in
    let (f, r) = row_spared p d 0 c.spared_row-top.ensures (sym z) (omega arith) (omega arith) (omega arith) in
    (omega arith, λ h. let t = row_start_two d 0 h in omega arith, pair_first (rows_only above_zero p d) (rows_only below_zero p d) d f r)

pub spared_row-row-requires : goal.spared_row-row-requires
spared_row-row-requires c =
    let row_here : RowSparable c.args.places.now c.loop-a.first 0 (c.args.d - c.loop-a.a) = let l = c.loop-a in light_row c.requires l.a (l.invariant.1 c.loop-a-test.true) (omega arith) (omega arith) (omega arith) in
    row_here

pub overflow_add-fall : goal.overflow_add-fall
overflow_add-fall c =
    let row_is : let s = c.args in let a = c.loop-a.a in let r = c.spared_row-row.result in
    (r.fall ≡ rows above_zero s.places.now s.d a) × (r.rise ≡ rows below_zero s.places.now s.d a) = let s = c.args in let l = c.loop-a in
    row_spared s.places.now s.d l.a c.spared_row-row.ensures (l.invariant.1 c.loop-a-test.true) (omega arith) (omega arith) l.invariant.2.even in
    let r = pair_left c.loop-a.invariant.2 (omega arith) row_is.0 in
    let e = rows_le above_zero c.args.places.now c.args.d above_le in let h = c.requires.light in record { fits = omega arith }

pub overflow_add-rise : goal.overflow_add-rise
overflow_add-rise c =
    let row_is : let s = c.args in let a = c.loop-a.a in let r = c.spared_row-row.result in
    (r.fall ≡ rows above_zero s.places.now s.d a) × (r.rise ≡ rows below_zero s.places.now s.d a) = let s = c.args in let l = c.loop-a in
    row_spared s.places.now s.d l.a c.spared_row-row.ensures (l.invariant.1 c.loop-a-test.true) (omega arith) (omega arith) l.invariant.2.even in
    let r = pair_right c.loop-a.invariant.2 (omega arith) row_is.1 in
    let e = rows_le below_zero c.args.places.now c.args.d below_le in let h = c.requires.light in record { fits = omega arith }

pub overflow_mul-first-in-loop-a : goal.overflow_mul-first-in-loop-a
overflow_mul-first-in-loop-a c = omega arith

pub overflow_add-first-in-loop-a : goal.overflow_add-first-in-loop-a
overflow_add-first-in-loop-a c = omega arith

pub overflow_add-first-in-loop-a-2 : goal.overflow_add-first-in-loop-a-2
overflow_add-first-in-loop-a-2 c =
    let row_here : RowSparable c.args.places.now c.loop-a.first 0 (c.args.d - c.loop-a.a) = let l = c.loop-a in light_row c.requires l.a (l.invariant.1 c.loop-a-test.true) (omega arith) (omega arith) (omega arith) in
    let r = row_here.inside in omega arith

pub overflow_add-a : goal.overflow_add-a
overflow_add-a c = omega arith

pub loop-a-smaller : goal.loop-a-smaller
loop-a-smaller c = omega arith

pub loop-a-preserved : goal.loop-a-preserved
loop-a-preserved c =
    let row_is : let s = c.args in let a = c.loop-a.a in let r = c.spared_row-row.result in
    (r.fall ≡ rows above_zero s.places.now s.d a) × (r.rise ≡ rows below_zero s.places.now s.d a) = let s = c.args in let l = c.loop-a in
    row_spared s.places.now s.d l.a c.spared_row-row.ensures (l.invariant.1 c.loop-a-test.true) (omega arith) (omega arith) l.invariant.2.even in
    let s = c.args in let p = s.places.now in let d = s.d in let l = c.loop-a in let (f, r) = row_is in
    (omega arith, λ h. let t = row_start_two d l.a h in let e = l.invariant.1 (omega arith) in omega arith, pair_next l.invariant.2 (rows_only above_zero p d) (rows_only below_zero p d) (omega arith) f r)

pub returns : goal.returns
returns c = pair_end c.loop-a.invariant.2 (omega arith)
