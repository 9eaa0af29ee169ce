-- `local::judging::judge` meets its contract, by the tests.
use mathlib.Core.Path.{◌≡◌}
use mathlib.Core.Bool.{true, false}
use Prim.Native.Nat.{ℕ}
use lib.IntN.{ℤ, pos}
use lib.Signed.{lt_z}
use borrow.Author.Rules.{rules}
use mir.Syntax.{w64}
use mir.Val.{to_z, of_z}
use Rattle.verdicts.specs.declared.Verdict.TheVariants.{Above, Below, Open}
use Rattle.verdicts.specs.Judging.{judged}
use Rattle.local.proofs.judging.judge.Goals as goal

-- ---- the three cases
module _ (l u : ℤ) (b : ℕ) where
  above : lt_z (pos 0) l ≡ true → Above l u b ≡ judged l u b
  unfolding judged
  above e = rw e

  below : lt_z (pos 0) l ≡ false → lt_z u (pos 0) ≡ true → Below l u b ≡ judged l u b
  unfolding judged
  below e f = rw (e, f)

  left_open : lt_z (pos 0) l ≡ false → lt_z u (pos 0) ≡ false → Open l u b ≡ judged l u b
  unfolding judged
  left_open e f = rw (e, f)

pub returns-then-lower-gt0 : goal.returns-then-lower-gt0
returns-then-lower-gt0 c =
    let r = c.args.range in
    let lower_read : to_z w64 (of_z w64 r.lower) ≡ r.lower = search rules in
    let upper_read : to_z w64 (of_z w64 r.upper) ≡ r.upper = search rules in
    rw (lower_read, upper_read) (above r.lower r.upper r.bend (simp lower_read at c.if-lower-gt0.true))

pub returns-then-upper-lt0 : goal.returns-then-upper-lt0
returns-then-upper-lt0 c =
    let r = c.args.range in
    let lower_read : to_z w64 (of_z w64 r.lower) ≡ r.lower = search rules in
    let upper_read : to_z w64 (of_z w64 r.upper) ≡ r.upper = search rules in
    rw (lower_read, upper_read) (below r.lower r.upper r.bend (simp lower_read at c.if-lower-gt0.false) (simp (lower_read, upper_read) at c.if-upper-lt0.true))

pub returns-else-upper-lt0 : goal.returns-else-upper-lt0
returns-else-upper-lt0 c =
    let r = c.args.range in
    let lower_read : to_z w64 (of_z w64 r.lower) ≡ r.lower = search rules in
    let upper_read : to_z w64 (of_z w64 r.upper) ≡ r.upper = search rules in
    rw (lower_read, upper_read) (left_open r.lower r.upper r.bend (simp lower_read at c.if-lower-gt0.false) (simp (lower_read, upper_read) at c.if-upper-lt0.false))
