-- `cells::sheet::Sheet::weight` meets its contract: the weight with Rx and Ry, by its ceiling.
use mathlib.Core.Path.{◌∙◌, ap₂}
use borrow.Author.Rules.{rules}
use Prim.Native.Nat.{◌+◌, ◌*◌, ◌^◌, min}
use lib.IntN.{nat_abs}
use Rattle.algebra.specs.Triangle.{place, triangle}
use Rattle.tables.specs.Table.{at}
use Rattle.page.specs.Weight.{weight}
use Rattle.cells.proofs.sheet.Sheet.weight.Goals as goal

pub returns : goal.returns
unfolding weight
returns c =
    let a = c.args.self in
    c.capped_weight.ensures
    ∙ ap₂ (λ rx ry. min (2 ^ ((a.k + 1) * a.d) * triangle a.d (λ i j. nat_abs (at a.coefficients.now (place a.d i j)) * rx ^ i * ry ^ j)) (2 ^ 62)) (search rules) (search rules)
