-- `header::sizes::size_after` meets its contract: the gap, and then the digits.
use Prim.Native.Nat.{◌<◌}
use native.Mathlib.Omega.{arith}
use Rattle.header.proofs.Sizing.{digits_all, size_unparted, size_missing, size_zero, size_read}
use Rattle.header.proofs.sizes.size_after.Goals as goal

pub returns-then-from-at : goal.returns-then-from-at
returns-then-from-at c = size_unparted _ _ c.gap_end-from.ensures c.digits_end-end.ensures (omega arith)

pub returns-then-end-from : goal.returns-then-end-from
returns-then-end-from c =
    let parted : c.args.at < c.gap_end-from.result = omega (arith, c.if-from-at.false) in
    size_missing _ _ c.gap_end-from.ensures c.digits_end-end.ensures parted c.if-end-from.true

pub capped_amount-value-requires : goal.capped_amount-value-requires
capped_amount-value-requires c = digits_all c.digits_end-end.ensures

pub returns-then-value-eq0 : goal.returns-then-value-eq0
returns-then-value-eq0 c =
    let parted : c.args.at < c.gap_end-from.result = omega (arith, c.if-from-at.false) in
    size_zero _ _ c.gap_end-from.ensures c.digits_end-end.ensures parted c.if-end-from.false c.capped_amount-value.ensures (omega arith)

pub returns : goal.returns
returns c =
    let parted : c.args.at < c.gap_end-from.result = omega (arith, c.if-from-at.false) in
    size_read _ _ c.gap_end-from.ensures c.digits_end-end.ensures parted c.if-end-from.false c.capped_amount-value.ensures (omega (arith, c.if-value-eq0.false))
