-- `local::measure::range_by` meets its contract: the bounds are the centre less the sizes that are not spared, and the centre and those; the bend is
-- the sizes less those of the two linear places.
use mathlib.Core.Path.{◌≡◌, ◌∙◌, ap}
use mathlib.Core.List.{List}
use Prim.Native.Nat.{ℕ, ◌+◌, ◌-◌, ◌^◌, ◌≤◌, ◌<◌}
use native.Mathlib.Omega.{arith}
use lib.IntN.{ℤ, ◌+ℤ◌, ◌-ℤ◌, nat_abs}
use lib.Signed.{mag}
use mir.Syntax.{w64}
use mir.Val.{to_z, of_z}
use mir.Facts.{to_z-of_z}
use Rattle.numbers.proofs.Machine.{read64}
use Rattle.tables.specs.Table.{at, held}
use Rattle.forms.specs.Bounds.{mode_of}
use Rattle.local.specs.declared.Spare.{Spare}
use Rattle.local.specs.Range.{Light, lower_of, upper_of, bend_of, sizes_of, spare_in}
use Rattle.local.proofs.Bounding.{count, room, sizable, bend_rest, fall_within, rise_within, lower_is, upper_is, step_fits, step_read, minus_fits, plus_fits}
use Rattle.local.proofs.measure.range_by.Goals as goal

-- ---- the sizes that are taken off are those of the two linear places
module _ {d : ℕ} {places : List ℤ} (one : 1 ≤ d) (light : Light d places) {total : ℕ} (total_is : total ≡ sizes_of places (count d)) where
  small : (n : ℕ) → total - n ≤ sizes_of places (count d)
  small n = let e = total_is in omega arith

  -- ---- the fall and the rise: the sizes less what is spared
  module _ (mode : ℕ) {spare : Spare} (spare_is : spare ≡ spare_in mode places d) (given : mag (at places 0) < 2 ^ 63) where
    centre_read : to_z w64 (of_z w64 (at places 0)) ≡ at places 0
    centre_read = read64 (at places 0) given

    lower_read : to_z w64 (of_z w64 (to_z w64 (of_z w64 (at places 0)) -ℤ to_z w64 (total - spare.fall))) ≡ lower_of d (mode_of mode) (held places d)
    lower_read =
        rw (centre_read, step_read one light (small spare.fall), to_z-of_z (minus_fits one light (small spare.fall)))
        (lower_is one light mode total_is spare_is)

    upper_read : to_z w64 (of_z w64 (to_z w64 (of_z w64 (at places 0)) +ℤ to_z w64 (total - spare.rise))) ≡ upper_of d (mode_of mode) (held places d)
    upper_read =
        rw (centre_read, step_read one light (small spare.rise), to_z-of_z (plus_fits one light (small spare.rise)))
        (upper_is one light mode total_is spare_is)

pub overflow_mul-d : goal.overflow_mul-d
overflow_mul-d c = let h = (sizable c.requires.0 c.requires.1).inside in omega arith

pub sizes-total-requires : goal.sizes-total-requires
sizes-total-requires c = sizable c.requires.0 c.requires.1

pub size-requires : goal.size-requires
size-requires c = let r = room c.requires.0 c.requires.1 in let b = bend_rest c.requires.0 c.requires.1 in rw (read64 (at c.args.places.now 1) c.size-arg-1.given) (omega arith)

pub overflow_sub-bend : goal.overflow_sub-bend
overflow_sub-bend c =
    let size_is : c.size.result ≡ nat_abs (at c.args.places.now 1) = c.size.ensures ∙ ap nat_abs (read64 (at c.args.places.now 1) c.size-arg-1.given) in
    let b = bend_rest c.requires.0 c.requires.1 in let e = size_is in omega arith

pub size-requires-2 : goal.size-requires-2
size-requires-2 c = let r = room c.requires.0 c.requires.1 in let b = bend_rest c.requires.0 c.requires.1 in rw (read64 (at c.args.places.now (c.args.d + 1)) c.size-arg-2-1.given) (omega arith)

pub overflow_sub-bend-2 : goal.overflow_sub-bend-2
overflow_sub-bend-2 c =
    let size_is : c.size.result ≡ nat_abs (at c.args.places.now 1) = c.size.ensures ∙ ap nat_abs (read64 (at c.args.places.now 1) c.size-arg-1.given) in
    let size-is-2 : let s = c.args in c.size-2.result ≡ nat_abs (at s.places.now (s.d + 1)) = let s = c.args in c.size-2.ensures ∙ ap nat_abs (read64 (at s.places.now (s.d + 1)) c.size-arg-2-1.given) in
    let b = bend_rest c.requires.0 c.requires.1 in let e = size_is in let f = size-is-2 in omega arith

pub overflow_sub-lower : goal.overflow_sub-lower
overflow_sub-lower c = fall_within c.requires.0 c.requires.1 c.args.mode c.sizes-total.ensures c.spared_in-spare.ensures

pub overflow_cast-lower : goal.overflow_cast-lower
overflow_cast-lower c = step_fits c.requires.0 c.requires.1 (small c.requires.0 c.requires.1 c.sizes-total.ensures c.spared_in-spare.result.fall)

pub overflow_sub-lower-2 : goal.overflow_sub-lower-2
overflow_sub-lower-2 c =
    let below = small c.requires.0 c.requires.1 c.sizes-total.ensures c.spared_in-spare.result.fall in
    rw (read64 (at c.args.places.now 0) c.centre-1.given, step_read c.requires.0 c.requires.1 below) (minus_fits c.requires.0 c.requires.1 below)

pub overflow_sub-upper : goal.overflow_sub-upper
overflow_sub-upper c = rise_within c.requires.0 c.requires.1 c.args.mode c.sizes-total.ensures c.spared_in-spare.ensures

pub overflow_cast-upper : goal.overflow_cast-upper
overflow_cast-upper c = step_fits c.requires.0 c.requires.1 (small c.requires.0 c.requires.1 c.sizes-total.ensures c.spared_in-spare.result.rise)

pub overflow_add-upper : goal.overflow_add-upper
overflow_add-upper c =
    let below = small c.requires.0 c.requires.1 c.sizes-total.ensures c.spared_in-spare.result.rise in
    rw (read64 (at c.args.places.now 0) c.centre-1.given, step_read c.requires.0 c.requires.1 below) (plus_fits c.requires.0 c.requires.1 below)

pub returns : goal.returns
returns c =
    let s = c.args in let p = c.requires in let t = c.sizes-total.ensures in let u = c.spared_in-spare.ensures in
    let size_is : c.size.result ≡ nat_abs (at s.places.now 1) = c.size.ensures ∙ ap nat_abs (read64 (at s.places.now 1) c.size-arg-1.given) in
    let size_is_2 : c.size-2.result ≡ nat_abs (at s.places.now (s.d + 1)) = c.size-2.ensures ∙ ap nat_abs (read64 (at s.places.now (s.d + 1)) c.size-arg-2-1.given) in
    let bend_read : c.sizes-total.result - c.size.result - c.size-2.result ≡ bend_of s.d (held s.places.now s.d) = let b = bend_rest p.0 p.1 in omega arith in
    rw (lower_read p.0 p.1 t s.mode u c.centre-1.given, upper_read p.0 p.1 t s.mode u c.centre-1.given, bend_read)
