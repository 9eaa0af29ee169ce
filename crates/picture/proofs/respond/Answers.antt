-- The answer lies within the place.
use Rattle.std.proofs.Common.{arith, length-take}
use Rattle.reply.proofs.Promises.{lies_in_picture}
use Rattle.picture.proofs.respond.Goals as goal

pub slice_bounds-place-end : goal.slice_bounds-place-end
slice_bounds-place-end g c = lies_in_picture _ c.picture_place-place.ensures c.depict-n.ensures

pub slice_bounds-write_all-end : goal.slice_bounds-write_all-end
slice_bounds-write_all-end g c =
    let h = lies_in_picture _ c.picture_place-place.ensures c.depict-n.ensures in
    simp length-take (omega (arith, h))
