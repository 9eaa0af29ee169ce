-- `printing::refusals::digits` meets its contract.
use mathlib.Core.Path.{◌≡◌}
use Prim.Native.Nat.{ℕ, ◌/◌, ◌≤◌, ◌<◌}
use native.Mathlib.Omega.{arith}
use lib.ListN.{length}
use Rattle.page.specs.ListingText.{decimal}
use Rattle.page.proofs.Decimals.{digits_one, digits_more}
use Rattle.printing.proofs.refusals.digits.Goals as goal

two : (n : ℕ) → 10 ≤ n → n < 100 → length (decimal n) ≡ 2
two n h l = omega (arith, digits_more n h, digits_one (n / 10) (omega arith))

three : (n : ℕ) → 100 ≤ n → n < 1_000 → length (decimal n) ≡ 3
three n h l = omega (arith, digits_more n (omega arith), two (n / 10) (omega arith) (omega arith))

pub returns-then-side-lt10 : goal.returns-then-side-lt10
returns-then-side-lt10 c = omega (arith, digits_one _ c.if-side-lt10.true)

pub returns-then-side-lt100 : goal.returns-then-side-lt100
returns-then-side-lt100 c = omega (arith, two _ c.if-side-lt10.false c.if-side-lt100.true)

pub returns-else-side-lt100 : goal.returns-else-side-lt100
returns-else-side-lt100 c = omega (arith, three c.args.side c.if-side-lt100.false (omega arith))
