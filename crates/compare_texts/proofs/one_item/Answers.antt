-- `compare_texts::one_item` lends no more of the place than its space has. A longer one is refused here, by numbers; without an answer the check
-- would only give up on it.
use native.Mathlib.Omega.{arith}
use Rattle.compare_texts.proofs.one_item.Goals as goal

pub slice_bounds-lent-end : goal.slice_bounds-lent-end
slice_bounds-lent-end g c = omega arith
