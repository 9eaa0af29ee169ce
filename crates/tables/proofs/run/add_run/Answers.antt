-- `run::add_run` meets its contract: the sums are made from the first place up, each of two numbers that are still the old ones.
use mathlib.Core.Path.{refl}
use Prim.Native.Nat.{◌+◌, ◌*◌, ◌^◌, ◌<◌}
use native.Mathlib.Omega.{arith}
use borrow.Author.Rules.{rules}
use lib.IntN.{ℤ, ◌+ℤ◌, ◌*ℤ◌, nat_abs}
use mir.Syntax.{w64}
use mir.Val.{SFits}
use mir.Facts.{to_z-of_z}
use Rattle.algebra.proofs.Absolute.{nat_abs-*ℤ}
use Rattle.numbers.proofs.Machine.{fits_product, fits_total}
use Rattle.tables.specs.Table.{at}
use Rattle.tables.proofs.Adding.{adding_room, adding_next}
use Rattle.tables.proofs.run.add_run.Goals as goal

pub loop-c-preserved : goal.loop-c-preserved
loop-c-preserved c =
    let s = c.args.s in let p = c.loop-c in
    let x : ℤ = at p.places (c.args.to + p.c) in let y : ℤ = at p.places (c.args.from + p.c) in
    let i = rw (to_z-of_z c.ranges.s) at p.invariant in
    let m : nat_abs x + nat_abs s * nat_abs y < 2 ^ 63 = adding_room c.requires (omega arith) i in
    let x_fits : SFits w64 x = search rules in let y_fits : SFits w64 y = search rules in
    let product : SFits w64 (s *ℤ y) = fits_product s y (omega arith) in let total : SFits w64 (x +ℤ s *ℤ y) = fits_total x (s *ℤ y) (rw nat_abs-*ℤ m) in
    rw (to_z-of_z c.ranges.s, to_z-of_z x_fits, to_z-of_z y_fits, to_z-of_z product, to_z-of_z total) (adding_next c.requires (omega arith) refl i)
