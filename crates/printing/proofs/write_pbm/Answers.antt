-- `printing::write_pbm` keeps its promise.
use mathlib.Core.Path.{◌≡◌, sym, ◌∙◌}
use Prim.Native.Nat.{ℕ}
use native.Mathlib.Omega.{arith}
use lib.ListN.{length}
use Rattle.std.proofs.Common.{Result, Ok}
use Rattle.page.specs.declared.Refusal.{Refusal}
use Rattle.page.specs.Numbers.{passed as answer}
use Rattle.pbm.specs.Refusals.{write_refusal}
use Rattle.writing.proofs.Puts.{put_two}
use Rattle.printing.proofs.Squares.{square_is}
use Rattle.printing.proofs.Refusing.{Passed, passed}
use Rattle.printing.proofs.Pictures.{picture_is, picture_long}
use Rattle.page.proofs.Refused.{passed_none}
use Rattle.printing.proofs.Promises.{print_refused, print_done}
use Rattle.printing.proofs.write_pbm.Goals as goal

-- nothing refuses, so the raster is whole, and the text has room
nothing : (k r n : ℕ) {x : Result Unit Refusal} → x ≡ answer (write_refusal k r n) → x ≡ Ok tt → (write_refusal k r n ≡ 0) × Passed k r n
nothing k r n e f = let z = passed_none tt (write_refusal k r n) (sym e ∙ f) in (z, passed k r n z)

pub returns-in_err-print_refusal : goal.returns-in_err-print_refusal
returns-in_err-print_refusal c = let a = c.args in print_refused a.k a.raster.now a.place.now c.from_residual.ensures.1 (sym c.print_refusal.ensures ∙ c.in_err-print_refusal.was)

pub side-side-requires : goal.side-side-requires
side-side-requires c = let a = c.args in (nothing a.k (length a.raster.now) (length a.place.now) c.print_refusal.ensures c.in_ok-print_refusal.was).1.depth

pub put_head-at-requires : goal.put_head-at-requires
put_head-at-requires c =
    let a = c.args in let p = nothing a.k (length a.raster.now) (length a.place.now) c.print_refusal.ensures c.in_ok-print_refusal.was in
    omega (arith, picture_long a.k c.side-side.ensures.0 a.raster.now, p.1.room)

pub put_rows-end-requires : goal.put_rows-end-requires
put_rows-end-requires c =
    let a = c.args in let p = nothing a.k (length a.raster.now) (length a.place.now) c.print_refusal.ensures c.in_ok-print_refusal.was in
    let fits = picture_long a.k c.side-side.ensures.0 a.raster.now in
    (c.side-side.ensures.1, omega (arith, square_is a.k c.side-side.ensures.0, p.1.whole), omega (arith, c.put_head-at.ensures.put.ends, fits, p.1.room))

pub returns : goal.returns
returns c =
    let a = c.args in let p = nothing a.k (length a.raster.now) (length a.place.now) c.print_refusal.ensures c.in_ok-print_refusal.was in
    print_done a.k a.raster.now a.place.now p.0 (rw (picture_is a.k c.side-side.ensures.0 a.raster.now) at (put_two c.put_head-at.ensures c.put_rows-end.ensures))
