-- Bytes put by a loop that counts: those of each number below n in turn.
use mathlib.Core.List.{List, flat_map}
use Prim.Native.Nat.{ℕ, ◌+◌, ◌≤◌, ◌<◌}
use native.Mathlib.Omega.{arith}
use lib.ListN.{length}
use Rattle.algebra.specs.Sum.{span}
use Rattle.algebra.proofs.Run.{length_span, span_at}
use Rattle.writing.specs.Steps.{Put}
use Rattle.writing.proofs.Puts.{Putting, putting_next, putting_room, putting_end}

module _ {f : ℕ → List ℕ} {n at : ℕ} {old place : List ℕ} {end i : ℕ} (p : Putting f (span 0 n) at old place end i) where
  -- room for all is room for the next number's
  pub numbered_room : i < n → at + length (flat_map f (span 0 n)) ≤ length old → end + length (f i) ≤ length place
  numbered_room h r = rw (span_at n i h) at (putting_room r (omega (arith, length_span n)) p)

  pub numbered_next : i < n → {now : List ℕ} {r : ℕ} → Put end (f i) place now r → Putting f (span 0 n) at old now r (i + 1)
  numbered_next h q = putting_next (omega (arith, length_span n)) p (rw (span_at n i h) q)

  pub numbered_end : n ≤ i → Put at (flat_map f (span 0 n)) old place end
  numbered_end h = putting_end (omega (arith, length_span n)) p
