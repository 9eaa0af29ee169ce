-- The page counts visited, coloured and cut cells level by level; examining a cell counts them part by part. Both come to the same.
use mathlib.Core.Path.{◌≡◌, sym, ◌∙◌, ap, ap₂}
use mathlib.Core.Bool.{Bool, ◌&&◌, cond}
use mathlib.Core.List.{map}
use Prim.Native.Nat.{ℕ, suc, ◌+◌, ◌-◌, ◌/◌, ◌^◌, ◌<◌}
use native.Mathlib.Nat as Nat
use native.Mathlib.Numerals.{add-one}
use Rattle.algebra.specs.Sum.{sumℕ, span}
use Rattle.algebra.proofs.Sum.{sumℕ_cong, sumℕ_zero}
use Rattle.algebra.proofs.Run.{span_member, span_none, span_first, sumℕ_span_first}
use Rattle.verdicts.specs.Walking.{Verdicts, enclosing, is_open, all_open, is_visited}
use Rattle.verdicts.specs.Operational.{four}
use Rattle.verdicts.proofs.Cells.{Cleared, Opened, levels_below}
use Rattle.verdicts.proofs.Squares.{sumℕ_four, under, under_cut, under_cong, under_none, under_self, under_whole}

-- the larger cells that enclose the cell x, y of level j are open, from `level` on
abbrev pub open_from : Verdicts → ℕ → ℕ → ℕ → ℕ → Bool
open_from v level j x y = all_open (map (enclosing v j x y) (span level j))

-- the first of them is the cell p, q
pub open_first : (v : Verdicts) (level j x y p q : ℕ) (b : Bool) → level < j → x / 2 ^ (j - level) ≡ p → y / 2 ^ (j - level) ≡ q
    → is_open (v level p q) ≡ b → open_from v level j x y ≡ (b && open_from v (level + 1) j x y)
open_first v level j x y p q b h e f o = rw (span_first level j h, e, f, o, add-one level)

-- ---- over the cells of level j under the cell p, q that are reached when it is examined: the sum of a weight
unfoldable pub reached : Verdicts → (ℕ → ℕ → ℕ → ℕ) → ℕ → ℕ → ℕ → ℕ → ℕ
reached v weight level j p q = under (j - level) (λ x y. cond (open_from v level j x y) (weight j x y) 0) p q

-- the same over all levels below `end`
abbrev pub levels : Verdicts → (ℕ → ℕ → ℕ → ℕ) → ℕ → ℕ → ℕ → ℕ → ℕ
levels v weight end level p q = sumℕ (span level end) (λ j. reached v weight level j p q)

module _ (v : Verdicts) (weight : ℕ → ℕ → ℕ → ℕ) (level p q : ℕ) where
  -- of its own level there is the cell itself
  reached_self : reached v weight level level p q ≡ weight level p q
  unfolding reached
  reached_self = rw (Nat.sub_self level, span_none level level (Nat.le_refl level)) (under_self (λ x y. weight level x y) p q)

  -- of the levels below none if it is cleared
  pub reached_cleared : {c : ℕ} (j : ℕ) → level < j → Cleared (v level p q) c → reached v weight level j p q ≡ 0
  unfolding reached
  reached_cleared j h s =
      under_none (j - level) _ p q (λ x y e f. ap (λ b. cond b (weight j x y) 0) (open_first v level j x y p q _ h e f s.closed))

  -- and if it is open those that its parts reach
  reached_open : (j : ℕ) → level < j → Opened (v level p q) → reached v weight level j p q ≡ four (reached v weight (level + 1) j) p q
  unfolding reached
  reached_open j h s =
      let below : ℕ → ℕ → ℕ = λ x y. cond (open_from v (level + 1) j x y) (weight j x y) 0 in
      under_cong (j - level) _ below p q (λ x y e f. ap (λ b. cond b (weight j x y) 0) (open_first v level j x y p q _ h e f s.free))
      ∙ ap (λ m. under m below p q) (levels_below h)
      ∙ under_cut (j - (level + 1)) below p q

  -- over all levels: itself alone where no other is reached, and else itself and what its parts give
  pub levels_shut : (end : ℕ) → level < end → ((j : ℕ) → level < j → j < end → reached v weight level j p q ≡ 0)
      → levels v weight end level p q ≡ weight level p q
  levels_shut end h z =
      sumℕ_span_first level end _ h
      ∙ ap₂ ◌+◌ reached_self (sumℕ_zero (span (suc level) end) (λ j m. let (l, k) = span_member (suc level) end m in z j l k))
      ∙ Nat.add-zero (weight level p q)

  pub levels_open : (end : ℕ) → level < end → Opened (v level p q)
      → levels v weight end level p q ≡ weight level p q + four (levels v weight end (level + 1)) p q
  levels_open end h s =
      sumℕ_span_first level end _ h
      ∙ ap₂ ◌+◌ reached_self (sumℕ_cong (span (suc level) end) (λ j m. let (l, k) = span_member (suc level) end m in reached_open j l s)
      ∙ sumℕ_four (span (suc level) end) (reached v weight (level + 1)) p q
      ∙ ap (λ n. four (λ a b. sumℕ (span n end) (λ j. reached v weight (level + 1) j a b)) p q) (sym (add-one level)))

-- under the cell of level 0 they are the page's: the cells of level j that are visited
pub reached_whole : (v : Verdicts) (weight : ℕ → ℕ → ℕ → ℕ) (j : ℕ)
    → reached v weight 0 j 0 0 ≡ sumℕ (span 0 (2 ^ j)) (λ y. sumℕ (span 0 (2 ^ j)) (λ x. cond (is_visited v j x y) (weight j x y) 0))
unfolding reached
reached_whole v weight j = rw (Nat.sub-zero j) (under_whole j _)
