-- `local::measure::range_on` meets its contract: each arm of the match hands on the degree itself, and what none of the others takes is degree 8.
use mathlib.Core.Path.{◌≡◌, subst}
use Prim.Native.Nat.{ℕ, ◌≤◌}
use native.Mathlib.Omega.{arith}
use mathlib.Core.List.{List}
use lib.IntN.{ℤ}
use Rattle.algebra.proofs.Choice.{eight_left}
use Rattle.local.specs.Range.{Light}
use Rattle.local.proofs.measure.range_on.Goals as goal

-- the arm of degree n
arm : {d n : ℕ} {p : List ℤ} → Light d p → 1 ≤ n → d ≡ n → (1 ≤ n) × Light n p
arm {p = p} l o e = (o, subst (λ n. Light n p) e l)

pub range_by-requires : goal.range_by-requires
range_by-requires c = arm c.requires (omega arith) c.in-1.is

pub range_by-requires-in-2 : goal.range_by-requires-in-2
range_by-requires-in-2 c = arm c.requires (omega arith) c.in-2.is

pub range_by-requires-in-3 : goal.range_by-requires-in-3
range_by-requires-in-3 c = arm c.requires (omega arith) c.in-3.is

pub range_by-requires-in-4 : goal.range_by-requires-in-4
range_by-requires-in-4 c = arm c.requires (omega arith) c.in-4.is

pub range_by-requires-in-5 : goal.range_by-requires-in-5
range_by-requires-in-5 c = arm c.requires (omega arith) c.in-5.is

pub range_by-requires-in-6 : goal.range_by-requires-in-6
range_by-requires-in-6 c = arm c.requires (omega arith) c.in-6.is

pub range_by-requires-in-7 : goal.range_by-requires-in-7
range_by-requires-in-7 c = arm c.requires (omega arith) c.in-7.is

pub range_by-requires-in_default : goal.range_by-requires-in_default
range_by-requires-in_default c =
    let last : c.args.d ≡ 8 = let m = c.in_default.in_default-own.rest in eight_left c.args.d c.requires.small m.0.0.0.0.0.0.0.1 m.0.0.0.0.0.0.1 m.0.0.0.0.0.1 m.0.0.0.0.1 m.0.0.0.1 m.0.0.1 m.0.1 m.1 in
    arm c.requires (omega arith) last

pub returns-in-0 : goal.returns-in-0
returns-in-0 c = rw c.in-0.is c.flat_range.ensures

pub returns-in-1 : goal.returns-in-1
returns-in-1 c = rw c.in-1.is c.range_by.ensures

pub returns-in-2 : goal.returns-in-2
returns-in-2 c = rw c.in-2.is c.range_by-in-2.ensures

pub returns-in-3 : goal.returns-in-3
returns-in-3 c = rw c.in-3.is c.range_by-in-3.ensures

pub returns-in-4 : goal.returns-in-4
returns-in-4 c = rw c.in-4.is c.range_by-in-4.ensures

pub returns-in-5 : goal.returns-in-5
returns-in-5 c = rw c.in-5.is c.range_by-in-5.ensures

pub returns-in-6 : goal.returns-in-6
returns-in-6 c = rw c.in-6.is c.range_by-in-6.ensures

pub returns-in-7 : goal.returns-in-7
returns-in-7 c = rw c.in-7.is c.range_by-in-7.ensures

pub returns-in_default : goal.returns-in_default
returns-in_default c =
    let last : c.args.d ≡ 8 = let m = c.in_default.in_default-own.rest in eight_left c.args.d c.requires.small m.0.0.0.0.0.0.0.1 m.0.0.0.0.0.0.1 m.0.0.0.0.0.1 m.0.0.0.0.1 m.0.0.0.1 m.0.0.1 m.0.1 m.1 in
    rw last c.range_by-in_default.ensures
