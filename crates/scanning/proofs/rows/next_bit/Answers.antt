-- `scanning::rows::next_bit` meets its contract: one byte after the other, until one is a digit.
use native.Mathlib.Omega.{arith}
use Rattle.scanning.proofs.Ahead.{seeking_start, seeking_within, seeking_next, seeking_end}
use Rattle.scanning.proofs.rows.next_bit.Goals as goal

pub loop-i-init : goal.loop-i-init
loop-i-init c = seeking_start c.requires

pub bounds-text-i : goal.bounds-text-i
bounds-text-i c = seeking_within c.loop-i.invariant

pub is_bit-requires : goal.is_bit-requires
is_bit-requires c = tt

pub overflow_add-i : goal.overflow_add-i
overflow_add-i c = omega (arith, seeking_within c.loop-i.invariant)

pub loop-i-smaller : goal.loop-i-smaller
loop-i-smaller c = omega (arith, seeking_within c.loop-i.invariant)

pub loop-i-preserved : goal.loop-i-preserved
loop-i-preserved c = seeking_next c.loop-i.invariant c.is_bit.ensures c.loop-i-test.true

pub returns : goal.returns
returns c = seeking_end c.loop-i.invariant c.is_bit.ensures c.loop-i-test.false
