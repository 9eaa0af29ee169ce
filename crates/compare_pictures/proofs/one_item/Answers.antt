-- `compare_pictures::one_item` holds no longer an input, and lends no more of the place, than their spaces have. Longer ones are refused here, by
-- numbers; without answers the check would only give up on them.
use native.Mathlib.Omega.{arith}
use Rattle.compare_pictures.proofs.one_item.Goals as goal

pub slice_bounds-input-end : goal.slice_bounds-input-end
slice_bounds-input-end g c = omega arith

pub slice_bounds-lent-end : goal.slice_bounds-lent-end
slice_bounds-lent-end g c = omega arith
