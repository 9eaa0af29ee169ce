-- The promise of `number` is kept by nothing else.
use Rattle.std.proofs.Common.{◌∙◌, sym}
use Rattle.numbering.specs.Promises.{OneNumber}

pub one_number : OneNumber
one_number r n m p q = p ∙ sym q
