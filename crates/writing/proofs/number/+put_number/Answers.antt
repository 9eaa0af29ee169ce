-- `writing::number::put_number` meets its contract: a number below ten is its only digit, and any other the digits of its tenth and the last one.
use native.Mathlib.Omega.{arith}
use Rattle.page.proofs.Decimals.{decimal_one, decimal_more, digits_one, digits_more}
use Rattle.writing.proofs.Puts.{put_two}
use Rattle.writing.proofs.number.+put_number.Goals as goal

pub put_byte-requires : goal.put_byte-requires
put_byte-requires t c = omega (arith, digits_one _ c.if-n-lt10.true)

pub returns-then-n-lt10 : goal.returns-then-n-lt10
returns-then-n-lt10 t c = rw (decimal_one _ c.if-n-lt10.true) c.put_byte.ensures

pub put_number-next-requires : goal.put_number-next-requires
put_number-next-requires t c = (omega arith, omega (arith, digits_more _ c.if-n-lt10.false))

pub put_byte-requires-2 : goal.put_byte-requires-2
put_byte-requires-2 t c = omega (arith, digits_more _ c.if-n-lt10.false)

pub returns : goal.returns
returns t c = rw (decimal_more _ c.if-n-lt10.false) (put_two c.put_number-next.ensures c.put_byte-2.ensures)
