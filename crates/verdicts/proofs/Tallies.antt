-- The tally of the walk is the page's: visited, coloured, and how both go with the cells cut.
use mathlib.Core.Path.{◌≡◌, sym, ◌∙◌, ap}
use mathlib.Core.Bool.{cond}
use Prim.Native.Nat.{ℕ, suc, ◌+◌, ◌*◌, ◌^◌}
use native.Mathlib.Nat as Nat
use native.Mathlib.Numerals.{add-one}
use native.Mathlib.Decide.{dec_lt}
use native.Mathlib.Omega.{arith}
use lib.Dec.{eqb}
use Rattle.algebra.specs.Sum.{span, ◌⋯◌}
use Rattle.algebra.proofs.Choice.{cond_both}
use Rattle.algebra.proofs.Sum.{sumℕ_cong}
use Rattle.algebra.proofs.Run.{sumℕ_span_none}
use Rattle.verdicts.specs.Walking.{Verdicts, is_open, visited, coloured, cells_cut}
use Rattle.verdicts.specs.Facts.{VisitedByCuts, VisitedBetween}
use Rattle.verdicts.specs.Operational.{visited_from, coloured_from, colour_from}
use Rattle.verdicts.proofs.Cells.{Cleared, walk_induction, visited_cleared, visited_last, visited_open, coloured_cleared, coloured_last, coloured_open, colour_cleared, colour_last, colour_open}
use Rattle.verdicts.proofs.Parts.{four_cong}
use Rattle.verdicts.proofs.Squares.{under, under_cut, under_cong, under_none, under_self, under_whole}
use Rattle.verdicts.proofs.Colours.{colour_is}
use Rattle.verdicts.proofs.Levels.{reached, levels, reached_cleared, levels_shut, levels_open, reached_whole}
use Rattle.verdicts.proofs.Bounds.{visited_bound}

-- ---- visited
visited_under : (v : Verdicts) (k level n p q : ℕ) → level + n ≡ k → levels v (λ j x y. 1) (suc k) level p q ≡ visited_from v level n p q
visited_under v k = walk_induction v (λ level n p q. level + n ≡ k → levels v (λ j x y. 1) (suc k) level p q ≡ visited_from v level n p q)
    (λ level n p q c s e.
    levels_shut v (λ j x y. 1) level p q (suc k) (omega arith) (λ j l h. reached_cleared v (λ j x y. 1) level p q j l s)
    ∙ sym (visited_cleared v level p q s n))
    (λ level p q s e.
    levels_shut v (λ j x y. 1) level p q (suc k) (omega arith) (λ j l h. absurd (omega arith))
    ∙ sym (visited_last v level p q))
    (λ level n p q s h e.
    levels_open v (λ j x y. 1) level p q (suc k) (omega arith) s
    ∙ ap (λ m. 1 + m) (four_cong _ _ p q (λ a b i j. h a b i j (omega arith)))
    ∙ sym (visited_open v level p q s n))

pub visited_is : (v : Verdicts) (k : ℕ) → visited_from v 0 k 0 0 ≡ visited v k
unfolding visited ◌⋯◌
visited_is v k =
    sym (visited_under v k 0 k 0 0 (Nat.zero-add k)) ∙ sumℕ_cong (span 0 (suc k)) (λ j m. reached_whole v (λ j x y. 1) j)

-- ---- coloured
coloured_under : (v : Verdicts) (level n p q : ℕ) → under n (λ x y. cond (eqb (colour_from v level n x y) 1) 1 0) p q ≡ coloured_from v level n p q
coloured_under v = walk_induction v (λ level n p q. under n (λ x y. cond (eqb (colour_from v level n x y) 1) 1 0) p q ≡ coloured_from v level n p q)
    (λ level n p q c s.
    under_none n _ p q (λ x y e f. ap (λ d. cond (eqb d 1) 1 0) (colour_cleared v level p q s n x y e f) ∙ ap (λ b. cond b 1 0) s.plain)
    ∙ sym (coloured_cleared v level p q s n))
    (λ level p q s.
    under_self _ p q ∙ ap (λ d. cond (eqb d 1) 1 0) (colour_last v level p q s p q (Nat.div-one p) (Nat.div-one q)) ∙ sym (coloured_last v level p q s))
    (λ level n p q s h.
    under_cong (suc n) _ (λ x y. cond (eqb (colour_from v (level + 1) n x y) 1) 1 0) p q (λ x y e f.
    ap (λ d. cond (eqb d 1) 1 0) (colour_open v level p q s n x y e f))
    ∙ under_cut n _ p q
    ∙ four_cong _ _ p q h
    ∙ sym (coloured_open v level p q s n))

pub coloured_is : (v : Verdicts) (k : ℕ) → coloured_from v 0 k 0 0 ≡ coloured v k
unfolding coloured
coloured_is v k = sym (coloured_under v 0 k 0 0) ∙ under_whole k _ ∙ simp (colour_is v k)

-- ---- the cells cut
abbrev cut : Verdicts → ℕ → ℕ → ℕ → ℕ
cut v j x y = cond (is_open (v j x y)) 1 0

cuts_cleared : (v : Verdicts) (k level p q : ℕ) {c : ℕ} → Cleared (v level p q) c → levels v (cut v) k level p q ≡ 0
cuts_cleared v k level p q s = elim (dec_lt level k) [
  | yes l ↦ levels_shut v (cut v) level p q k l (λ j i h. reached_cleared v (cut v) level p q j i s) ∙ ap (λ b. cond b 1 0) s.closed
  | no l ↦ sumℕ_span_none level k _ (omega arith)
]

visited_cuts : (v : Verdicts) (k level n p q : ℕ) → level + n ≡ k → visited_from v level n p q ≡ 1 + 4 * levels v (cut v) k level p q
visited_cuts v k = walk_induction v (λ level n p q. level + n ≡ k → visited_from v level n p q ≡ 1 + 4 * levels v (cut v) k level p q)
    (λ level n p q c s e. omega (arith, visited_cleared v level p q s n, cuts_cleared v k level p q s))
    (λ level p q s e. omega (arith, visited_last v level p q, sumℕ_span_none level k (λ j. reached v (cut v) level j p q) (omega arith)))
    (λ level n p q s h e. omega (
      arith,
      visited_open v level p q s n,
      levels_open v (cut v) level p q k (omega arith) s,
      ap (λ b. cond {A = ℕ} b 1 0) s.free,
      four_cong (visited_from v (level + 1) n) (λ a b. 1 + 4 * levels v (cut v) k (level + 1) a b) p q (λ a b i j. h a b i j (omega arith)),
    ))

pub visited_by_cuts : VisitedByCuts
unfolding cells_cut
visited_by_cuts v k =
    sym (visited_is v k)
    ∙ visited_cuts v k 0 k 0 0 (Nat.zero-add k)
    ∙ ap (λ n. 1 + 4 * n) (sumℕ_cong (span 0 k) (λ j m. reached_whole v (cut v) j ∙ simp cond_both))

pub visited_between : VisitedBetween
visited_between v k = omega (arith, visited_by_cuts v k, visited_is v k, visited_bound v 0 k 0 0, ap (λ n. 4 ^ n) (add-one k))
