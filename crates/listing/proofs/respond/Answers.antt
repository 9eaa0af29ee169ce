-- The answer lies within the place.
use Rattle.std.proofs.Common.{arith, length-take}
use Rattle.reply.proofs.Promises.{lies_in_fresh}
use Rattle.listing.proofs.respond.Goals as goal

pub slice_bounds-place-end : goal.slice_bounds-place-end
slice_bounds-place-end g c = lies_in_fresh _ c.place-place.ensures c.answer-n.ensures

pub slice_bounds-write_all-end : goal.slice_bounds-write_all-end
slice_bounds-write_all-end g c =
    let h = lies_in_fresh _ c.place-place.ensures c.answer-n.ensures in
    simp length-take (omega (arith, h))
