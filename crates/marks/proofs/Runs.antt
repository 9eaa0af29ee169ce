-- A run of entries: its test as two bounds, and a run that is filled.
use mathlib.Core.Path.{◌≡◌}
use mathlib.Core.Bool.{true, cond}
use mathlib.Core.List.{List}
use Prim.Native.Nat.{ℕ, ◌+◌, ◌≤◌, ◌<◌}
use native.Mathlib.Decide.{dec_lt}
use native.Mathlib.Omega.{arith}
use lib.ListN.{length, get_or, replicate}
use borrow.Rule.Slice.PartMut.{put_mid}
use borrow.Author.Rules.{rules}
use Rattle.std.proofs.lemmas.List.{places}
use lib.Dec.{leb, ltb}
use borrow.Author.Tests.{leb-true, ltb-true, le-leb, lt-leb, le-ltb, lt-ltb}
use Rattle.algebra.proofs.Choice.{and_left, and_right, and_both}
use Rattle.marks.specs.Steps.{in_run, Run}

pub run_from : (at n i : ℕ) → in_run at n i ≡ true → at ≤ i
run_from at n i e = leb-true at i (and_left (leb at i) (ltb i (at + n)) e)

pub run_to : (at n i : ℕ) → in_run at n i ≡ true → i < at + n
run_to at n i e = ltb-true i (at + n) (and_right (leb at i) (ltb i (at + n)) e)

pub run_has : (at n i : ℕ) → at ≤ i → i < at + n → in_run at n i ≡ true
run_has at n i f t = and_both (leb at i) (ltb i (at + n)) (le-leb at i f) (lt-ltb i (at + n) t)

-- a run that is filled at once
pub run_filled : (at n c : ℕ) (xs ys : List ℕ) {k m : ℕ} → at + n ≤ length xs → k ≡ n → ys ≡ replicate m c → m ≡ n → Run at n c xs (put_mid at k xs ys)
run_filled at n c xs ys h e f g = rw (f, e, g) (record { long = search (rules, places); each = λ i l. go i l (dec_lt i at) (dec_lt i (at + n)) })
  where
    go : (i : ℕ) → i < length xs → Dec (i < at) → Dec (i < at + n) → get_or (put_mid at n xs (replicate n c)) i 0 ≡ cond (in_run at n i) c (get_or xs i 0)
    go i l (yes b) _ = rw (lt-leb at i b) (grind (arith, places))
    go i l (no b) (yes t) = rw (le-leb at i (omega arith), lt-ltb i (at + n) t) (grind (arith, places))
    go i l (no b) (no t) = rw (le-leb at i (omega arith), le-ltb i (at + n) (omega arith)) (grind (arith, places))
