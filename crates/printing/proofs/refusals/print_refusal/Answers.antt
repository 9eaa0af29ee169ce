-- `printing::refusals::print_refusal` meets its contract.
use mathlib.Core.Path.{◌≡◌, ap}
use Prim.Native.Nat.{◌*◌, ◌^◌}
use native.Mathlib.Omega.{arith}
use Rattle.page.specs.Numbers.{by_number, passed}
use Rattle.printing.proofs.Squares.{square_is, square_small}
use Rattle.printing.proofs.Refusing.{too_deep, short_raster, short_place, passes}
use Rattle.printing.proofs.refusals.print_refusal.Goals as goal

pub returns-then-k-gt7 : goal.returns-then-k-gt7
unfolding by_number
returns-then-k-gt7 c = let a = c.args in ap passed (too_deep a.k a.bytes a.entries (omega arith))

pub overflow_mul-side : goal.overflow_mul-side
overflow_mul-side c = omega (arith, square_small c.side-side.result c.side-side.ensures.1)

pub returns-then-bytes-side : goal.returns-then-bytes-side
unfolding by_number
returns-then-bytes-side c =
    let whole : c.side-side.result * c.side-side.result ≡ 4 ^ c.args.k = square_is c.args.k c.side-side.ensures.0 in
    let a = c.args in
    ap passed (short_raster a.k a.bytes a.entries (omega arith) (omega (arith, whole)))

pub returns-then-entries-text_length : goal.returns-then-entries-text_length
unfolding by_number
returns-then-entries-text_length c =
    let a = c.args in
    ap passed (short_place a.k a.bytes a.entries (omega arith) (omega (arith, c.text_length.ensures)))

pub returns : goal.returns
returns c =
    let whole : c.side-side.result * c.side-side.result ≡ 4 ^ c.args.k = square_is c.args.k c.side-side.ensures.0 in
    let a = c.args in
    ap passed (passes a.k a.bytes a.entries (omega arith) (omega (arith, whole)) (omega (arith, c.text_length.ensures)))
