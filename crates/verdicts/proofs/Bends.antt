-- The largest bend of the coloured finest cells: what determines it, and that the walk's is the page's.
use mathlib.Core.Path.{◌≡◌, refl, sym, ◌∙◌, ap}
use mathlib.Core.Bool.{cond, true≢false}
use Prim.Native.Nat.{ℕ, suc, ◌+◌, ◌/◌, ◌^◌, ◌≤◌, ◌<◌}
use native.Mathlib.Nat as Nat
use native.Mathlib.Decide.{ℕ_discrete, dec_le}
use native.Mathlib.Omega.{arith}
use borrow.Author.Tests.{eqb-true, ne_eqb}
use lib.Dec.{eqb}
use Rattle.algebra.specs.Sum.{span}
use Rattle.algebra.specs.MinMax.{largest}
use Rattle.algebra.proofs.Choice.{cond_first}
use Rattle.algebra.proofs.MinMax.{largest_member, largest_least, largest_reached}
use Rattle.algebra.proofs.Run.{span_member, member_span}
use Rattle.verdicts.specs.Judging.{carried_bend}
use Rattle.verdicts.specs.Walking.{Verdicts, colour, largest_bend}
use Rattle.verdicts.specs.Facts.{Having, IsLargest, BendLargest}
use Rattle.verdicts.specs.Operational.{bend_from, colour_from}
use Rattle.verdicts.proofs.Cells.{walk_induction, bend_cleared, bend_last, bend_open, colour_cleared, colour_last, colour_open}
use Rattle.verdicts.proofs.Parts.{half_of, below_side, part_at_most, parts_at_most}
use Rattle.verdicts.proofs.Colours.{colour_is}

-- ---- what determines it
module _ (v : Verdicts) (k : ℕ) where
  -- the bend of a coloured finest cell, and 0 of another
  abbrev bend_at : ℕ → ℕ → ℕ
  bend_at p q = cond (eqb (colour v k p q) 1) (carried_bend (v k p q)) 0

  -- it is at most what the bend of each coloured finest cell is at most
  pub bend_least : (m : ℕ) → ((p q : ℕ) → p < 2 ^ k → q < 2 ^ k → colour v k p q ≡ 1 → carried_bend (v k p q) ≤ m) → largest_bend v k ≤ m
  unfolding largest_bend
  bend_least m h = largest_least (span 0 (2 ^ k)) (λ q j. largest_least (span 0 (2 ^ k)) (λ p i.
      let a = span_member 0 (2 ^ k) i in let b = span_member 0 (2 ^ k) j in
      elim (ℕ_discrete (colour v k p q) 1) [
        | yes e ↦ rw e (h p q a.1 b.1 e)
        | no n ↦ rw (ne_eqb (colour v k p q) 1 n) (omega arith)
      ]))

  -- and at least each of them
  each_at_most : (p q : ℕ) → p < 2 ^ k → q < 2 ^ k → bend_at p q ≤ largest_bend v k
  unfolding largest_bend
  each_at_most p q h i = Nat.le_trans
      (largest_member (λ p. bend_at p q) (member_span 0 (2 ^ k) p (omega arith) h))
      (largest_member (λ q. largest (span 0 (2 ^ k)) (λ p. bend_at p q)) (member_span 0 (2 ^ k) q (omega arith) i))

  coloured_at_most : (p q : ℕ) → p < 2 ^ k → q < 2 ^ k → colour v k p q ≡ 1 → carried_bend (v k p q) ≤ largest_bend v k
  coloured_at_most p q h i e = rw e at (each_at_most p q h i)

  bend_reached : (p q : ℕ) → p < 2 ^ k → q < 2 ^ k → colour v k p q ≡ 1 → Having k (λ p q. colour v k p q ≡ 1) (λ p q. carried_bend (v k p q)) (largest_bend v k)
  unfolding largest_bend
  bend_reached p q h i e = elim (dec_le (largest_bend v k) 0) [
    | yes l ↦ record { column = p; row = q; across = h; along = i; holds = e; exact = omega (arith, coloured_at_most p q h i e) }
    | no l ↦
        let r = largest_reached (span 0 (2 ^ k)) (λ q. largest (span 0 (2 ^ k)) (λ p. bend_at p q)) (omega arith) in
        let s = largest_reached (span 0 (2 ^ k)) (λ p. bend_at p r.member) (omega (arith, r.most)) in
        let some : 0 ≡ largest_bend v k → ⊥ = λ z. omega arith in
        let t = cond_first _ (s.most ∙ r.most) some in
        record {
          column = s.member;
          row = r.member;
          across = (span_member 0 (2 ^ k) s.within).1;
          along = (span_member 0 (2 ^ k) r.within).1;
          holds = eqb-true _ 1 t.0;
          exact = t.1;
        }
  ]

pub bend_largest : BendLargest
bend_largest v k = record { at_most = coloured_at_most v k; reached = bend_reached v k; none = λ h. omega (arith, bend_least v k 0 (λ p q a b e. absurd (h p q a b e))) }

-- the same by another property and other numbers, alike on the grid
pub largest_by : {k : ℕ} {has also : ℕ → ℕ → Type 0} {number other : ℕ → ℕ → ℕ} {b c : ℕ}
    → ((p q : ℕ) → p < 2 ^ k → q < 2 ^ k → has p q → also p q) → ((p q : ℕ) → p < 2 ^ k → q < 2 ^ k → also p q → has p q) → ((p q : ℕ) → number p q ≡ other p q) → b ≡ c
    → IsLargest k has number b → IsLargest k also other c
largest_by there back same e l = record {
  at_most = λ p q x y z. rw (← same p q, ← e) (l.at_most p q x y (back p q x y z));
  reached = λ p q x y z. let r = l.reached p q x y (back p q x y z) in record {
    column = r.column;
    row = r.row;
    across = r.across;
    along = r.along;
    holds = there r.column r.row r.across r.along r.holds;
    exact = sym (same r.column r.row) ∙ r.exact ∙ e;
  };
  none = λ n. sym e ∙ l.none (λ p q x y z. n p q x y (there p q x y z));
}

-- ---- the walk's: that of no coloured finest cell under the cell is larger
under_most : (v : Verdicts) (level n p q : ℕ) (x y : ℕ) → x / 2 ^ n ≡ p → y / 2 ^ n ≡ q → colour_from v level n x y ≡ 1 → carried_bend (v (level + n) x y) ≤ bend_from v level n p q
under_most v = walk_induction v (λ level n p q. (x y : ℕ) → x / 2 ^ n ≡ p → y / 2 ^ n ≡ q → colour_from v level n x y ≡ 1 → carried_bend (v (level + n) x y) ≤ bend_from v level n p q)
    (λ level n p q c s x y e f o. absurd (true≢false (ap (λ d. eqb d 1) (sym o ∙ colour_cleared v level p q s n x y e f) ∙ s.plain)))
    (λ level p q s x y e f o. let a : x ≡ p = sym (Nat.div-one x) ∙ e in let b : y ≡ q = sym (Nat.div-one y) ∙ f in rw (bend_last v level p q s, a, b, Nat.add-zero level) (Nat.le_refl _))
    (λ level n p q s h x y e f o.
    let d : level + suc n ≡ level + 1 + n = omega arith in
    rw (bend_open v level p q s n, d) (Nat.le_trans
    (h (x / 2 ^ n) (y / 2 ^ n) (half_of x n ∙ e) (half_of y n ∙ f) x y refl refl (sym (colour_open v level p q s n x y e f) ∙ o))
    (part_at_most (bend_from v (level + 1) n) p q (x / 2 ^ n) (y / 2 ^ n) (half_of x n ∙ e) (half_of y n ∙ f))))

-- and it is at most what all of theirs are at most
under_least : (v : Verdicts) (m level n p q : ℕ) → ((x y : ℕ) → x / 2 ^ n ≡ p → y / 2 ^ n ≡ q → colour_from v level n x y ≡ 1 → carried_bend (v (level + n) x y) ≤ m) → bend_from v level n p q ≤ m
under_least v m = walk_induction v (λ level n p q. ((x y : ℕ) → x / 2 ^ n ≡ p → y / 2 ^ n ≡ q → colour_from v level n x y ≡ 1 → carried_bend (v (level + n) x y) ≤ m) → bend_from v level n p q ≤ m)
    (λ level n p q c s g. omega (arith, bend_cleared v level p q s n))
    (λ level p q s g. rw (bend_last v level p q s) (rw (Nat.add-zero level) at (g p q (Nat.div-one p) (Nat.div-one q) (colour_last v level p q s p q (Nat.div-one p) (Nat.div-one q)))))
    (λ level n p q s h g.
    let d : level + suc n ≡ level + 1 + n = omega arith in
    rw (bend_open v level p q s n) (parts_at_most (bend_from v (level + 1) n) p q m (λ a b i j. h a b i j (λ x y e f o.
    let l = sym (half_of x n) ∙ ap (λ z. z / 2) e ∙ i in let r = sym (half_of y n) ∙ ap (λ z. z / 2) f ∙ j in
    rw d at (g x y l r (colour_open v level p q s n x y l r ∙ o))))))

-- so both are at most the same numbers
pub bend_is : (v : Verdicts) (k : ℕ) → bend_from v 0 k 0 0 ≡ largest_bend v k
bend_is v k = Nat.le_antisymm
    (under_least v (largest_bend v k) 0 k 0 0 (λ x y e f o.
    let a = below_side x k e in let b = below_side y k f in
    rw (Nat.zero-add k) (coloured_at_most v k x y a b (sym (colour_is v k x y) ∙ o))))
    (bend_least v k _ (λ p q a b e. rw (Nat.zero-add k) at (under_most v 0 k 0 0 p q (Nat.div-eq_of_lt a) (Nat.div-eq_of_lt b) (colour_is v k p q ∙ e))))
