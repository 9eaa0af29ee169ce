-- `numbers::combine` meets its contract: what the machine reads back from the bits of each product is the product, since it fits.
use mir.Facts.{to_z-of_z}
use Rattle.numbers.proofs.Machine.{fits_left, fits_right, fits_sum}
use Rattle.numbers.proofs.combine.Goals as goal

pub overflow_add-result : goal.overflow_add-result
overflow_add-result c =
    let a = c.args in
    rw (to_z-of_z c.ranges.x, to_z-of_z c.ranges.u, to_z-of_z c.ranges.y, to_z-of_z c.ranges.h, to_z-of_z (fits_left a.x a.u a.y a.h c.requires), to_z-of_z (fits_right a.x a.u a.y a.h c.requires))
    (fits_sum a.x a.u a.y a.h c.requires)

pub returns : goal.returns
returns c =
    let a = c.args in
    rw (to_z-of_z c.ranges.x, to_z-of_z c.ranges.u, to_z-of_z c.ranges.y, to_z-of_z c.ranges.h, to_z-of_z (fits_left a.x a.u a.y a.h c.requires), to_z-of_z (fits_right a.x a.u a.y a.h c.requires))
    (to_z-of_z (fits_sum a.x a.u a.y a.h c.requires))
