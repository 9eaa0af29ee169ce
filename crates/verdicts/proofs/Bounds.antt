-- How many cells a walk visits and colours, and how many records it writes, at most.
use Prim.Native.Nat.{ℕ, suc, ◌+◌, ◌*◌, ◌^◌, ◌≤◌}
use native.Mathlib.Nat as Nat
use native.Mathlib.Omega.{arith}
use lib.Dec.{lit<}
use lib.ListN.{length}
use Rattle.verdicts.specs.Walking.{Verdicts}
use Rattle.verdicts.specs.Operational.{visited_from, coloured_from, records_from}
use Rattle.verdicts.proofs.Parts.{four_bound, length_in_turn}
use Rattle.verdicts.proofs.Cells.{walk_induction, visited_cleared, visited_last, visited_open, coloured_cleared, coloured_last, coloured_open, records_cleared, records_last, records_open}

-- ---- of any cell with n levels below it
pub visited_bound : (v : Verdicts) (level n p q : ℕ) → 3 * visited_from v level n p q + 1 ≤ 4 ^ suc n
visited_bound v = walk_induction v (λ level n p q. 3 * visited_from v level n p q + 1 ≤ 4 ^ suc n)
    (λ level n p q c s. omega (arith, visited_cleared v level p q s n, Nat.pow-suc 4 n, Nat.one-le-pow n 4 (lit< tt)))
    (λ level p q s. omega (arith, visited_last v level p q))
    (λ level n p q s h. omega (
      arith,
      visited_open v level p q s n,
      four_bound (λ a b. 3 * visited_from v (level + 1) n a b + 1) p q (4 ^ suc n) h,
      Nat.pow-suc 4 (suc n),
    ))

coloured_bound : (v : Verdicts) (level n p q : ℕ) → coloured_from v level n p q ≤ 4 ^ n
coloured_bound v = walk_induction v (λ level n p q. coloured_from v level n p q ≤ 4 ^ n)
    (λ level n p q c s. omega (arith, coloured_cleared v level p q s n))
    (λ level p q s. omega (arith, coloured_last v level p q s))
    (λ level n p q s h. omega (
      arith,
      coloured_open v level p q s n,
      four_bound (coloured_from v (level + 1) n) p q (4 ^ n) h,
      Nat.pow-suc 4 n,
    ))

pub records_bound : (v : Verdicts) (level n p q : ℕ) → length (records_from v level n p q) ≤ 4 ^ n
records_bound v = walk_induction v (λ level n p q. length (records_from v level n p q) ≤ 4 ^ n)
    (λ level n p q c s. rw (records_cleared v level p q s n) (Nat.one-le-pow n 4 (lit< tt)))
    (λ level p q s. rw (records_last v level p q s) (Nat.le_refl 1))
    (λ level n p q s h. rw (records_open v level p q s n) (omega (
      arith,
      length_in_turn (records_from v (level + 1) n) p q,
      four_bound (λ a b. length (records_from v (level + 1) n a b)) p q (4 ^ n) h,
      Nat.pow-suc 4 n,
    )))

-- ---- with at most 7 levels below it
pub power_small : {n : ℕ} → n ≤ 7 → 4 ^ n ≤ 16_384
power_small l = Nat.pow-le-pow_right {n = 4} (lit< tt) l

pub visited_small : (v : Verdicts) (level n p q : ℕ) → n ≤ 7 → visited_from v level n p q ≤ 21_845
visited_small v level n p q l = omega (arith, visited_bound v level n p q, Nat.pow-suc 4 n, power_small l)

pub coloured_small : (v : Verdicts) (level n p q : ℕ) → n ≤ 7 → coloured_from v level n p q ≤ 16_384
coloured_small v level n p q l = Nat.le_trans (coloured_bound v level n p q) (power_small l)
