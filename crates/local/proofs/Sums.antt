-- Sums that a loop adds up: what is added and what is left to add are the whole sum, so that each step leaves room.
use mathlib.Core.Path.{◌≡◌, refl, sym, ◌∙◌, ap}
use Prim.Native.Nat.{ℕ, suc, ◌+◌, ◌%◌, ◌≤◌, ◌<◌}
use native.Mathlib.Nat as Nat
use native.Mathlib.Decide.{dec_lt}
use native.Mathlib.Omega.{arith}
use lib.IntN.{pos, nat_abs}
use Rattle.algebra.specs.Sum.{sumℕ, span, ◌⋯◌}
use Rattle.algebra.proofs.Sum.{pos_sumℕ}
use Rattle.algebra.proofs.Run.{sumℕ_span_none, sumℕ_span_first, sum_⋯_from}
use Rattle.local.specs.declared.Spare.{Spare}

-- of the terms f(s), .., f(n-1) those before k are added
pub record Added (f : ℕ → ℕ) (s n k done : ℕ) : Type 0 where
  pub whole : done + sumℕ (span k n) f ≡ sumℕ (span s n) f

pub added_start : (f : ℕ → ℕ) (s n : ℕ) → Added f s n s 0
added_start f s n = record { whole = omega arith }

-- terms of zero at the beginning may be passed over
added_from : (f : ℕ → ℕ) (k n : ℕ) → ((i : ℕ) → i < k → f i ≡ 0) → Added f 0 (suc n) k 0
unfolding ◌⋯◌
added_from f k n z =
    let e : sumℕ (0 ⋯ n) f ≡ sumℕ (k ⋯ n) f = ap nat_abs (pos_sumℕ (0 ⋯ n) f ∙ sum_⋯_from k n (λ i. pos (f i)) (λ i l. ap pos (z i l)) ∙ sym (pos_sumℕ (k ⋯ n) f)) in
    record { whole = omega arith }

-- one term apart, and one of zero passed over
one_apart : (f : ℕ → ℕ) {k j : ℕ} (n : ℕ) → j ≡ suc k → k < n → sumℕ (span k n) f ≡ f k + sumℕ (span j n) f
one_apart f {k} n e l = rw e (sumℕ_span_first k n f l)

one_over : (f : ℕ → ℕ) {k j : ℕ} (n : ℕ) → j ≡ suc k → f k ≡ 0 → sumℕ (span k n) f ≡ sumℕ (span j n) f
one_over f {k} {j} n e z = elim (dec_lt k n) [
  | yes l ↦ let p = one_apart f n e l in omega arith
  | no l ↦ sumℕ_span_none k n f (omega arith) ∙ sym (sumℕ_span_none j n f (omega arith))
]

-- the terms at odd places are zero
abbrev pub EvenOnly : (ℕ → ℕ) → Type 0
EvenOnly f = (i : ℕ) → i % 2 ≡ 1 → f i ≡ 0

module _ {f : ℕ → ℕ} {s n k done : ℕ} (h : Added f s n k done) where
  pub added_end : n ≤ k → done ≡ sumℕ (span s n) f
  added_end l = let z = sumℕ_span_none k n f l in omega arith

  module _ (l : k < n) {t : ℕ} (e : t ≡ f k) where
    pub added_room : done + t ≤ sumℕ (span s n) f
    added_room = let p = sumℕ_span_first k n f l in omega arith

    pub added_next : Added f s n (k + 1) (done + t)
    added_next = let p = one_apart f {j = k + 1} n (omega arith) l in record { whole = omega arith }

    -- two places on
    added_two : k % 2 ≡ 0 → EvenOnly f → Added f s n (k + 2) (done + t)
    added_two even odd =
        let p = added_next.whole in let q = one_over f {k = k + 1} {j = k + 2} n (omega arith) (odd (k + 1) (omega arith)) in record { whole = omega arith }

-- ---- two sums over 0, .., n that go on by two places, where the terms at odd places are zero
pub record Pair (f g : ℕ → ℕ) (n k x y : ℕ) : Type 0 where
  pub even : k % 2 ≡ 0
  pub left : Added f 0 (suc n) k x
  pub right : Added g 0 (suc n) k y

module _ {f g : ℕ → ℕ} {n k x y : ℕ} (h : Pair f g n k x y) where
  pub pair_left : k ≤ n → {t : ℕ} → t ≡ f k → x + t ≤ sumℕ (0 ⋯ n) f
  unfolding ◌⋯◌
  pair_left l e = added_room h.left (omega arith) e

  pub pair_right : k ≤ n → {t : ℕ} → t ≡ g k → y + t ≤ sumℕ (0 ⋯ n) g
  unfolding ◌⋯◌
  pair_right l e = added_room h.right (omega arith) e

  pub pair_next : EvenOnly f → EvenOnly g → k ≤ n → {t u : ℕ} → t ≡ f k → u ≡ g k → Pair f g n (k + 2) (x + t) (y + u)
  pair_next o p l d e = record { even = omega arith; left = added_two h.left (omega arith) d h.even o; right = added_two h.right (omega arith) e h.even p }

  pub pair_end : n < k → ◌≡◌ {A = Spare} (record { fall = x; rise = y }) (record { fall = sumℕ (0 ⋯ n) f; rise = sumℕ (0 ⋯ n) g })
  unfolding ◌⋯◌
  pair_end l = let p = added_end h.left l in let q = added_end h.right l in cc

-- ---- where it starts: past terms of zero, or past the first two places
pub pair_from : (f g : ℕ → ℕ) (n k : ℕ) → k % 2 ≡ 0 → ((i : ℕ) → i < k → f i ≡ 0) → ((i : ℕ) → i < k → g i ≡ 0) → Pair f g n k 0 0
pair_from f g n k e y z = record { even = e; left = added_from f k n y; right = added_from g k n z }

pub pair_first : {f g : ℕ → ℕ} → EvenOnly f → EvenOnly g → (n : ℕ) {t u : ℕ} → t ≡ f 0 → u ≡ g 0 → Pair f g n 2 t u
pair_first {f} {g} o p n d e = simp Nat.zero-add at (pair_next (pair_from f g n 0 refl (λ i l. absurd (omega arith)) (λ i l. absurd (omega arith))) o p (omega arith) d e)
