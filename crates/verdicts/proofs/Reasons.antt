-- Why a finest cell has its colour: 2 or 3 by the cleared cell that covers it, above or below; 1 where all that enclose it are open. And from the reason back to the colour.
use mathlib.Core.Path.{◌≡◌, refl, sym, ◌∙◌, ap}
use mathlib.Core.Bool.{true, false, true≢false, cond}
use mathlib.Core.Logic.{inl, inr}
use mathlib.Core.List.Memᴰ
use mathlib.Core.List.{List, [], ◌∷◌, ◌++◌, map, map-append, Memᴰ}
use Prim.Native.Nat.{ℕ, zero, suc, ◌+◌, ◌-◌, ◌/◌, ◌^◌, ◌≤◌, ◌<◌}
use native.Mathlib.Nat as Nat
use native.Mathlib.Omega.{arith}
use lib.Dec.{eqb}
use lib.IntN.{ℤ}
use lib.Pow.{shr-shr}
use Rattle.algebra.specs.Sum.{run, span, ◌⋯◌}
use Rattle.algebra.proofs.Choice.{and_both}
use Rattle.algebra.proofs.Run.{span_member, span-++, span_first, ⋯_member, member_⋯, ⋯-run}
use Rattle.verdicts.specs.declared.Verdict.{Verdict}
use Rattle.verdicts.specs.declared.Verdict.TheVariants.{Above, Below, Open}
use Rattle.verdicts.specs.Judging.{carried_bend}
use Rattle.verdicts.specs.Walking.{Verdicts, enclosing, is_open, all_open, is_visited, colour_of, colour}
use Rattle.verdicts.specs.Facts.{Covered, ColourMeans}
use Rattle.verdicts.proofs.Cells.{Cleared, clears, opens, kind, cleared_above, cleared_below}
use Rattle.verdicts.proofs.Colours.{first_cleared, first_opened}
use Rattle.verdicts.proofs.Lists.{map_cong}

-- ---- a verdict by its colour, and the two bounds and the bend that it carries
abbrev carried_lower : Verdict → ℤ
carried_lower (Above l u b) = l
carried_lower (Below l u b) = l
carried_lower (Open l u b) = l

abbrev carried_upper : Verdict → ℤ
carried_upper (Above l u b) = u
carried_upper (Below l u b) = u
carried_upper (Open l u b) = u

abbrev verdict_of : ℕ → ℤ → ℤ → ℕ → Verdict
verdict_of c = cond (eqb c 2) Above (cond (eqb c 3) Below Open)

verdict_is : (w : Verdict) → w ≡ verdict_of (colour_of (w ∷ [])) (carried_lower w) (carried_upper w) (carried_bend w)
verdict_is (Above l u b) = refl
verdict_is (Below l u b) = refl
verdict_is (Open l u b) = refl

-- ---- the verdict that decides, of those at n levels from a on: the ones before it are open
record Decided (f : ℕ → Verdict) (a n c : ℕ) : Type 0 where
  before : ℕ
  few : before < n
  free : all_open (map f (run a before)) ≡ true
  painted : colour_of (f (a + before) ∷ []) ≡ c

deciding : (f : ℕ → Verdict) (a n c : ℕ) → eqb c 1 ≡ false → colour_of (map f (run a n)) ≡ c → Decided f a n c
unfolding run
deciding f a zero c h e = absurd (true≢false (ap (λ d. eqb d 1) e ∙ h))
deciding f a (suc n) c h e = elim (kind (f a)) [
  | clears d s ↦ record {
    before = 0;
    few = omega arith;
    free = refl;
    painted = ap (λ l. colour_of (f l ∷ [])) (Nat.add-zero a) ∙ s.painted ∙ sym (first_cleared s (map f (run (suc a) n))) ∙ e;
  }
  | opens s ↦ let r = deciding f (suc a) n c h (sym (first_opened s (map f (run (suc a) n))) ∙ e) in record {
    before = suc r.before;
    few = let l = r.few in omega arith;
    free = and_both (is_open (f a)) _ s.free r.free;
    painted = ap (λ l. colour_of (f l ∷ [])) (let m : a + suc r.before ≡ suc a + r.before = omega arith in m) ∙ r.painted;
  }
]

-- after open verdicts the later ones decide
after_open : (xs ys : List Verdict) → all_open xs ≡ true → colour_of (xs ++ ys) ≡ colour_of ys
after_open [] ys e = refl
after_open (Above l u b ∷ xs) ys e = absurd (true≢false (sym e))
after_open (Below l u b ∷ xs) ys e = absurd (true≢false (sym e))
after_open (Open l u b ∷ xs) ys e = after_open xs ys e

-- ---- the larger cells that enclose a cell which encloses the finest cell p, q enclose the finest cell
module _ (v : Verdicts) (k p q : ℕ) where
  visited_by : (level : ℕ) → level ≤ k → is_visited v level (p / 2 ^ (k - level)) (q / 2 ^ (k - level)) ≡ all_open (map (enclosing v k p q) (span 0 level))
  visited_by level h = ap all_open (map_cong (span 0 level) (λ l m.
      let (_, i) = span_member 0 level m in
      let e : (k - level) + (level - l) ≡ k - l = omega arith in
      rw (shr-shr p (k - level) (level - l), shr-shr q (k - level) (level - l), e)))

  colour_covered : (c : ℕ) → eqb c 1 ≡ false → colour v k p q ≡ c → Covered v k p q (verdict_of c)
  unfolding colour span
  colour_covered c h e =
      let r = deciding (enclosing v k p q) 0 (suc k) c h (ap (λ ls. colour_of (map (enclosing v k p q) ls)) (sym (⋯-run k)) ∙ e) in
      let l = r.before in
      let w : Verdict = enclosing v k p q l in
      let i : l ≤ k = let d = r.few in omega arith in
      record {
        level = l;
        within = i;
        reached = visited_by l i ∙ ap (λ n. all_open (map (enclosing v k p q) (run 0 n))) (Nat.sub-zero l) ∙ r.free;
        lower = carried_lower w;
        upper = carried_upper w;
        bend = carried_bend w;
        judged = verdict_is w ∙ ap (λ d. verdict_of d (carried_lower w) (carried_upper w) (carried_bend w)) (ap (λ n. colour_of (enclosing v k p q n ∷ [])) (sym (Nat.zero-add l)) ∙ r.painted);
      }

  covered_colour : (c level : ℕ) → level ≤ k → is_visited v level (p / 2 ^ (k - level)) (q / 2 ^ (k - level)) ≡ true → Cleared (enclosing v k p q level) c → colour v k p q ≡ c
  unfolding colour ◌⋯◌
  covered_colour c level h o s =
      let f = enclosing v k p q in
      let later = span (suc level) (suc k) in
      ap (λ ls. colour_of (map f ls)) (span-++ 0 level (suc k) (omega arith) (omega arith) ∙ ap (λ ls. span 0 level ++ ls) (span_first level (suc k) (omega arith)))
      ∙ ap colour_of (map-append f (span 0 level) (level ∷ later))
      ∙ after_open (map f (span 0 level)) (map f (level ∷ later)) (sym (visited_by level h) ∙ o)
      ∙ first_cleared s (map f later)

pub colour_above : (v : Verdicts) (k p q : ℕ) → colour v k p q ≡ 2 → Covered v k p q Above
colour_above v k p q e = colour_covered v k p q 2 refl e

pub colour_below : (v : Verdicts) (k p q : ℕ) → colour v k p q ≡ 3 → Covered v k p q Below
colour_below v k p q e = colour_covered v k p q 3 refl e

-- ---- no verdict decides
undecided : (f : ℕ → Verdict) (ls : List ℕ) → colour_of (map f ls) ≡ 1 → (l : ℕ) → Memᴰ l ls → is_open (f l) ≡ true
undecided f [] e l m = absurd (Memᴰ.not-nil m)
undecided f (i ∷ ls) e l m = elim (kind (f i)) [
  | clears d s ↦ absurd (true≢false (ap (λ d. eqb d 1) (sym e ∙ first_cleared s (map f ls)) ∙ s.plain))
  | opens s ↦ elim (Memᴰ.cases_cons m) [
    | inl h ↦ rw h s.free
    | inr r ↦ undecided f ls (sym (first_opened s (map f ls)) ∙ e) l r
  ]
]

none_decides : (f : ℕ → Verdict) (ls : List ℕ) → ((l : ℕ) → Memᴰ l ls → is_open (f l) ≡ true) → colour_of (map f ls) ≡ 1
none_decides f [] h = refl
none_decides f (i ∷ ls) h = elim (kind (f i)) [
  | clears d s ↦ absurd (true≢false (sym (h i (Memᴰ.head refl)) ∙ s.closed))
  | opens s ↦ first_opened s (map f ls) ∙ none_decides f ls (λ l m. h l (Memᴰ.tail m))
]

pub coloured_all_open : (v : Verdicts) (k p q : ℕ) → colour v k p q ≡ 1 → (l : ℕ) → l ≤ k → is_open (enclosing v k p q l) ≡ true
unfolding colour
coloured_all_open v k p q e l h = undecided (enclosing v k p q) _ e l (member_⋯ _ k l (omega arith) h)

open_colour : (v : Verdicts) (k p q : ℕ) → ((l : ℕ) → l ≤ k → is_open (enclosing v k p q l) ≡ true) → colour v k p q ≡ 1
unfolding colour
open_colour v k p q h = none_decides (enclosing v k p q) _ (λ l m. h l (⋯_member 0 k m).1)

-- ---- each colour exactly where its reason holds
pub colour_means : ColourMeans
colour_means v k p q = (
  (coloured_all_open v k p q, open_colour v k p q),
  (colour_above v k p q, λ w. covered_colour v k p q 2 w.level w.within w.reached (cleared_above (sym w.judged))),
  (colour_below v k p q, λ w. covered_colour v k p q 3 w.level w.within w.reached (cleared_below (sym w.judged))),
)
