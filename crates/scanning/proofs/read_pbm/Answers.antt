-- `scanning::read_pbm` meets its contract: 12, 13 and 7 in this order, and then the mask.
use mathlib.Core.Path.{◌≡◌, sym, ◌∙◌, subst}
use Prim.Native.Nat.{◌*◌, ◌%◌, ◌^◌, ◌≤◌}
use native.Mathlib.Omega.{arith}
use lib.ListN.{length}
use Rattle.std.proofs.Common.{None, Some, Err}
use Rattle.page.specs.declared.Refusal.TheVariants.{NotPlain, Sides}
use Rattle.numbers.proofs.Ceiling.{one_shifted}
use Rattle.pbm.specs.Refusals.{not_plain}
use Rattle.pbm.specs.Steps.{found}
use Rattle.scanning.specs.Promises.{ScanPromise}
use Rattle.scanning.specs.Steps.{depth_at, PictureRead, PictureFound}
use Rattle.page.proofs.Refused.{handed_up}
use Rattle.scanning.proofs.Answering.{put_in, mask_small, no_picture_read, no_depth_read, depth_small, digits_ahead, short_read, mask_read}
use Rattle.scanning.proofs.read_pbm.Goals as goal

pub returns-in_err-head : goal.returns-in_err-head
returns-in_err-head c =
    let none : found c.args.text.now ≡ not_plain = subst (λ r. PictureFound c.args.text.now r) c.in_err-head.ensures.ok_part c.picture_in.ensures in
    let e : c.from_residual.result ≡ Err NotPlain = rw (← put_in c.picture_in.result c.in_err-head.ensures.ok_part c.in_err-head.ensures.value) (handed_up c.from_residual.result c.in_err-head.field-0.0 c.from_residual.ensures.1) in
    subst (λ r. ScanPromise c.args.text.now c.args.place.now r c.args.place.now) (sym e) (no_picture_read c.args.text.now c.args.place.now none)

pub returns-in_err-depth : goal.returns-in_err-depth
returns-in_err-depth c =
    let p : PictureRead c.args.text.now c.in_ok-head.head = subst (λ r. PictureFound c.args.text.now r) c.in_ok-head.ensures.ok_part c.picture_in.ensures in
    let d : None ≡ depth_at c.in_ok-head.head.width c.in_ok-head.head.height = sym c.in_err-depth.ensures.ok_part ∙ c.depth_of.ensures in
    let e : c.from_residual-in_err-depth.result ≡ Err Sides =
    rw (← put_in c.depth_of.result c.in_err-depth.ensures.ok_part c.in_err-depth.ensures.value) (handed_up c.from_residual-in_err-depth.result c.in_err-depth.field-0.0 c.from_residual-in_err-depth.ensures.1) in
    subst (λ r. ScanPromise c.args.text.now c.args.place.now r c.args.place.now) (sym e) (no_depth_read c.args.text.now c.args.place.now p d)

pub overflow_shl-side : goal.overflow_shl-side
overflow_shl-side c =
    let p : PictureRead c.args.text.now c.in_ok-head.head = subst (λ r. PictureFound c.args.text.now r) c.in_ok-head.ensures.ok_part c.picture_in.ensures in
    let d : Some c.in_ok-depth.depth ≡ depth_at c.in_ok-head.head.width c.in_ok-head.head.height = sym c.in_ok-depth.ensures.ok_part ∙ c.depth_of.ensures in
    let small : c.in_ok-depth.depth ≤ 7 = depth_small c.args.text.now c.args.place.now p d in
    omega (arith, small)

pub overflow_mul-side : goal.overflow_mul-side
overflow_mul-side c =
    let p : PictureRead c.args.text.now c.in_ok-head.head = subst (λ r. PictureFound c.args.text.now r) c.in_ok-head.ensures.ok_part c.picture_in.ensures in
    let d : Some c.in_ok-depth.depth ≡ depth_at c.in_ok-head.head.width c.in_ok-head.head.height = sym c.in_ok-depth.ensures.ok_part ∙ c.depth_of.ensures in
    let small : c.in_ok-depth.depth ≤ 7 = depth_small c.args.text.now c.args.place.now p d in
    let side-is : let k = c.in_ok-depth.depth in 1 * 2 ^ k % 2 ^ 64 ≡ 2 ^ k = one_shifted c.in_ok-depth.depth (omega (arith, small)) in
    rw side-is (omega (arith, mask_small c.in_ok-depth.depth small))

pub returns-then-place-side : goal.returns-then-place-side
returns-then-place-side c =
    let p : PictureRead c.args.text.now c.in_ok-head.head = subst (λ r. PictureFound c.args.text.now r) c.in_ok-head.ensures.ok_part c.picture_in.ensures in
    let d : Some c.in_ok-depth.depth ≡ depth_at c.in_ok-head.head.width c.in_ok-head.head.height = sym c.in_ok-depth.ensures.ok_part ∙ c.depth_of.ensures in
    let small : c.in_ok-depth.depth ≤ 7 = depth_small c.args.text.now c.args.place.now p d in
    let side-is : let k = c.in_ok-depth.depth in 1 * 2 ^ k % 2 ^ 64 ≡ 2 ^ k = one_shifted c.in_ok-depth.depth (omega (arith, small)) in
    let h = rw side-is at c.if-place-side.true in
    short_read c.args.text.now c.args.place.now p d (omega arith)

pub put_rows-requires : goal.put_rows-requires
put_rows-requires c =
    let p : PictureRead c.args.text.now c.in_ok-head.head = subst (λ r. PictureFound c.args.text.now r) c.in_ok-head.ensures.ok_part c.picture_in.ensures in
    let d : Some c.in_ok-depth.depth ≡ depth_at c.in_ok-head.head.width c.in_ok-head.head.height = sym c.in_ok-depth.ensures.ok_part ∙ c.depth_of.ensures in
    let small : c.in_ok-depth.depth ≤ 7 = depth_small c.args.text.now c.args.place.now p d in
    let side-is : let k = c.in_ok-depth.depth in 1 * 2 ^ k % 2 ^ 64 ≡ 2 ^ k = one_shifted c.in_ok-depth.depth (omega (arith, small)) in
    let long-enough : let k = c.in_ok-depth.depth in 2 ^ k * 2 ^ k ≤ length c.args.place.now = let h = rw side-is at c.if-place-side.false in omega arith in
    rw side-is (digits_ahead c.args.text.now c.args.place.now p d, long-enough)

pub returns : goal.returns
returns c =
    let p : PictureRead c.args.text.now c.in_ok-head.head = subst (λ r. PictureFound c.args.text.now r) c.in_ok-head.ensures.ok_part c.picture_in.ensures in
    let d : Some c.in_ok-depth.depth ≡ depth_at c.in_ok-head.head.width c.in_ok-head.head.height = sym c.in_ok-depth.ensures.ok_part ∙ c.depth_of.ensures in
    let small : c.in_ok-depth.depth ≤ 7 = depth_small c.args.text.now c.args.place.now p d in
    let side-is : let k = c.in_ok-depth.depth in 1 * 2 ^ k % 2 ^ 64 ≡ 2 ^ k = one_shifted c.in_ok-depth.depth (omega (arith, small)) in
    let long-enough : let k = c.in_ok-depth.depth in 2 ^ k * 2 ^ k ≤ length c.args.place.now = let h = rw side-is at c.if-place-side.false in omega arith in
    mask_read c.args.text.now c.args.place.now p d long-enough (rw side-is at c.put_rows.ensures)
