-- `writing::lines::put_numbers` meets its contract: 11 bytes are room for a tab and a number of ten digits.
use native.Mathlib.Omega.{arith}
use Rattle.writing.specs.Steps.{tabbed}
use Rattle.writing.proofs.Puts.{putting_start, putting_next, putting_end, put_two, put_length}
use Rattle.writing.proofs.Fields.{number_short}
use Rattle.writing.proofs.lines.put_numbers.Goals as goal

pub loop-n-init : goal.loop-n-init
loop-n-init c = (putting_start (omega arith), omega arith)

pub put_number-end-requires : goal.put_number-end-requires
put_number-end-requires c = omega (arith, number_short _ c.type_inv.n.fits, c.put_byte-end.ensures.put.ends, put_length c.loop-n.invariant.0.so_far)

pub loop-n-preserved : goal.loop-n-preserved
loop-n-preserved c =
    let l = c.loop-n in
    let e = put_two c.put_byte-end.ensures c.put_number-end.ensures in
    (putting_next c.loop-n-test.true l.invariant.0 e, omega (arith, e.put.ends, number_short _ (c.type_inv.numbers l.n-index).fits))

pub returns : goal.returns
unfolding tabbed
returns c = let p = c.loop-n.invariant in (putting_end c.loop-n-test.false p.0, omega arith)
