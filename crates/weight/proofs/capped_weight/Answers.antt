-- `weight::capped_weight` meets its contract: a product of two numbers under the ceiling is the whole product under it.
use mathlib.Core.Path.{◌∙◌, ap₂}
use Prim.Native.Nat.{◌*◌, ◌^◌, min}
use Rattle.algebra.proofs.Ceiling.{ceil_*}
use Rattle.weight.proofs.capped_weight.Goals as goal

pub returns : goal.returns
returns c = c.capped_product.ensures ∙ ap₂ (λ x y. min (x * y) (2 ^ 62)) c.capped_power.ensures c.sum_weight.ensures ∙ ceil_* (2 ^ 62) _ _
