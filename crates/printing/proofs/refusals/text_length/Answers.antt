-- `printing::refusals::text_length` meets its contract.
use mathlib.Core.Path.{◌≡◌, ap}
use Prim.Native.Nat.{◌+◌, ◌*◌, ◌/◌, ◌^◌}
use native.Mathlib.Omega.{arith}
use lib.ListN.{length}
use Rattle.page.specs.ListingText.{decimal}
use Rattle.pbm.specs.Writing.{text_length}
use Rattle.printing.proofs.Squares.{rows_small}
use Rattle.printing.proofs.refusals.text_length.Goals as goal

pub overflow_mul-result-2 : goal.overflow_mul-result-2
overflow_mul-result-2 c = omega (arith, rows_small c.side-side.result c.side-side.ensures.1)

pub overflow_add-result-4 : goal.overflow_add-result-4
overflow_add-result-4 c = omega (arith, rows_small c.side-side.result c.side-side.ensures.1)

pub returns : goal.returns
unfolding text_length
returns c =
    let e : c.side-side.result ≡ 2 ^ c.args.k = c.side-side.ensures.0 in
    omega (arith, c.digits.ensures.0, ap (λ s. length (decimal s)) e, ap (λ s. s * (s + (s + 69) / 70)) e)
