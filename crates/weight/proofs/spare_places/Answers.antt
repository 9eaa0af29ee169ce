-- `weight::spare_places` meets its contract: the digits make 64 with the leading zeros, and a weight below 2^62 has 62 at most.
use Prim.Native.Nat.{ℕ, ◌^◌, ◌<◌}
use native.Mathlib.Nat as Nat
use native.Mathlib.Omega.{arith}
use Rattle.algebra.specs.Digits.{digits}
use Rattle.algebra.proofs.Digits.{digits_spec, digits_leading}
use Rattle.weight.proofs.spare_places.Goals as goal

few : (w : ℕ) → w < 2 ^ 62 → digits w < 63
few w h = Nat.lt_of_not-le (λ l. Nat.not-le_of_lt h ((digits_spec w (omega arith) 62).1 l))

pub overflow_sub-digits : goal.overflow_sub-digits
overflow_sub-digits c = let e = digits_leading c.args.weight (omega arith) in omega arith

pub overflow_sub-result : goal.overflow_sub-result
overflow_sub-result c = let w = c.args.weight in let f = few w c.requires in let e = digits_leading w (omega arith) in omega arith

pub returns : goal.returns
returns c = let w = c.args.weight in let f = few w c.requires in let e = digits_leading w (omega arith) in omega arith
