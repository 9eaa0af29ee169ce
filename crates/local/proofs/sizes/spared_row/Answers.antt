-- `local::sizes::spared_row` meets its contract: the even places that the loop has passed are added up.
use mathlib.Core.Path.{◌≡◌, ◌∙◌, ap}
use native.Mathlib.Omega.{arith}
use lib.IntN.{nat_abs}
use Rattle.numbers.proofs.Machine.{read64}
use Rattle.algebra.proofs.Sum.{sumℕ_member}
use Rattle.algebra.proofs.Run.{member_⋯}
use Rattle.tables.specs.Table.{row_of}
use Rattle.local.specs.Range.{above_zero, below_zero}
use Rattle.local.proofs.Sums.{pair_from, pair_left, pair_right, pair_next, pair_end}
use Rattle.local.proofs.Sparing.{evens, evens_before, evens_at, evens_only, evens_le, above_le, below_le}
use Rattle.local.proofs.sizes.spared_row.Goals as goal

pub loop-b-init : goal.loop-b-init
loop-b-init c =
    let a = c.args in let row = row_of a.places.now a.first in
    (omega arith, pair_from (evens above_zero row a.from) (evens below_zero row a.from) a.n a.from (omega arith) (evens_before above_zero row a.from) (evens_before below_zero row a.from))

pub overflow_add-fall : goal.overflow_add-fall
overflow_add-fall c =
    let above-is : let s = c.args in c.above-fall.result ≡ evens above_zero (row_of s.places.now s.first) s.from c.loop-b.b = let s = c.args in let l = c.loop-b in let row = row_of s.places.now s.first in
    c.above-fall.ensures ∙ ap above_zero (read64 (row l.b) c.g-1.given) ∙ evens_at above_zero row s.from l.b l.invariant.0 l.invariant.1.even in
    let a = c.args in let l = c.loop-b in
    let r = pair_left l.invariant.1 (omega arith) above-is in
    let e = evens_le above_zero (row_of a.places.now a.first) a.from above_le a.n in let h = c.requires.light in record { fits = omega arith }

pub below-rise-requires : goal.below-rise-requires
below-rise-requires c =
    let a = c.args in let b = c.loop-b.b in let row = row_of a.places.now a.first in
    let t = sumℕ_member (λ b. nat_abs (row b)) (member_⋯ 0 a.n b (omega arith) (omega arith)) in let h = c.requires.light in rw (read64 (row b) c.g-1.given) (omega arith)

pub overflow_add-rise : goal.overflow_add-rise
overflow_add-rise c =
    let below-is : let s = c.args in c.below-rise.result ≡ evens below_zero (row_of s.places.now s.first) s.from c.loop-b.b = let s = c.args in let l = c.loop-b in let row = row_of s.places.now s.first in
    c.below-rise.ensures ∙ ap below_zero (read64 (row l.b) c.g-1.given) ∙ evens_at below_zero row s.from l.b l.invariant.0 l.invariant.1.even in
    let a = c.args in let l = c.loop-b in
    let r = pair_right l.invariant.1 (omega arith) below-is in
    let e = evens_le below_zero (row_of a.places.now a.first) a.from below_le a.n in let h = c.requires.light in record { fits = omega arith }

pub loop-b-preserved : goal.loop-b-preserved
loop-b-preserved c =
    let above-is : let s = c.args in c.above-fall.result ≡ evens above_zero (row_of s.places.now s.first) s.from c.loop-b.b = let s = c.args in let l = c.loop-b in let row = row_of s.places.now s.first in
    c.above-fall.ensures ∙ ap above_zero (read64 (row l.b) c.g-1.given) ∙ evens_at above_zero row s.from l.b l.invariant.0 l.invariant.1.even in
    let below-is : let s = c.args in c.below-rise.result ≡ evens below_zero (row_of s.places.now s.first) s.from c.loop-b.b = let s = c.args in let l = c.loop-b in let row = row_of s.places.now s.first in
    c.below-rise.ensures ∙ ap below_zero (read64 (row l.b) c.g-1.given) ∙ evens_at below_zero row s.from l.b l.invariant.0 l.invariant.1.even in
    let a = c.args in let l = c.loop-b in let row = row_of a.places.now a.first in
    (omega arith, pair_next l.invariant.1 (evens_only above_zero row a.from) (evens_only below_zero row a.from) (omega arith) above-is below-is)

pub returns : goal.returns
returns c = pair_end c.loop-b.invariant.1 (omega arith)

pub returns-2 : goal.returns-2
returns-2 c =
    let above-is : let s = c.args in c.above-fall.result ≡ evens above_zero (row_of s.places.now s.first) s.from c.loop-b.b = let s = c.args in let l = c.loop-b in let row = row_of s.places.now s.first in
    c.above-fall.ensures ∙ ap above_zero (read64 (row l.b) c.g-1.given) ∙ evens_at above_zero row s.from l.b l.invariant.0 l.invariant.1.even in
    let below-is : let s = c.args in c.below-rise.result ≡ evens below_zero (row_of s.places.now s.first) s.from c.loop-b.b = let s = c.args in let l = c.loop-b in let row = row_of s.places.now s.first in
    c.below-rise.ensures ∙ ap below_zero (read64 (row l.b) c.g-1.given) ∙ evens_at below_zero row s.from l.b l.invariant.0 l.invariant.1.even in
    let a = c.args in let l = c.loop-b in let row = row_of a.places.now a.first in
    pair_end (pair_next l.invariant.1 (evens_only above_zero row a.from) (evens_only below_zero row a.from) (omega arith) above-is below-is) (omega arith)
