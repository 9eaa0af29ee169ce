-- The refusal table, read from its first row on.
use mathlib.Core.Path.{◌≡◌, refl, sym, ◌∙◌, ap, subst}
use mathlib.Core.Bool.{Bool, true, false, not, ◌||◌, cond}
use Prim.Native.Nat.{ℕ, zero, suc, ◌+◌, ◌^◌, ◌≤◌, ◌<◌, min}
use native.Mathlib.Nat as Nat
use native.Mathlib.Omega.{arith}
use borrow.Author.Tests.{ltb-false, leb-false, lt-ltb, le-ltb, le-leb, lt-leb, eq-eqb, ne_eqb, eqb-true, not-false}
use lib.Dec.{T, leb, ltb, eqb, leb-suc-suc, lit<}
use lib.IntN.{ℤ, pos, negsuc, nat_abs}
use lib.ListN.{length}
use Rattle.algebra.proofs.Ceiling.{min_met}
use Rattle.verdicts.specs.Walking.{visited}
use Rattle.verdicts.proofs.Tallies.{visited_between}
use Rattle.page.specs.Sheet.{Sheet, count, mode_of, InRange}
use Rattle.page.specs.Scaled.{IsCell}
use Rattle.page.specs.Bounds.{verdict}
use Rattle.page.specs.Weight.{weight, Accepted}
use Rattle.page.specs.Refusals.{outside_range, misplaced, table, first, refusal, cell, point, to_check, at_point, in_cell, to_walk, unless}
use Rattle.page.specs.Steps.{range_refusal, mode_refusal}

-- ---- a number outside its range is larger than 1,048,576 in size
pub outside_size : (z : ℤ) → outside_range z ≡ ltb 1_048_576 (nat_abs z)
outside_size (pos n) = refl
outside_size (negsuc n) = or_false (ltb 1_048_575 n) ∙ sym (leb-suc-suc 1_048_576 n)
  where
    or_false : (b : Bool) → b || false ≡ b
    or_false true = refl
    or_false false = refl

-- ---- the number n, or where it is 0 the next one
abbrev pub or_else : ℕ → ℕ → ℕ
or_else zero m = m
or_else (suc n) m = suc n

-- the rows 1 to 4, and what comes after them
four_rows : (a b c d : Bool) (m : ℕ) → cond a 1 (cond b 2 (cond c 3 (cond d 4 m))) ≡ or_else (cond a 1 (cond b 2 (cond c 3 (cond d 4 0)))) m
four_rows true b c d m = refl
four_rows false true c d m = refl
four_rows false false true d m = refl
four_rows false false false true m = refl
four_rows false false false false m = refl

-- the rows 5 and 6, and what comes after them
two_rows : (n : ℕ) (a b : Bool) (m : ℕ) → or_else n (cond a 5 (cond b 6 m)) ≡ or_else (or_else n (cond a 5 (cond b 6 0))) m
two_rows zero true b m = refl
two_rows zero false true m = refl
two_rows zero false false m = refl
two_rows (suc n) a b m = refl

-- the row 6, and what comes after it
one_row : (n : ℕ) (b : Bool) (m : ℕ) → or_else n (cond b 6 m) ≡ or_else (or_else n (cond b 6 0)) m
one_row zero true m = refl
one_row zero false m = refl
one_row (suc n) b m = refl

module _ (S : Sheet) where
  -- the conditions of rows 4 and 6
  abbrev misframed : Bool
  misframed = outside_range S.X || outside_range S.Y || ltb 10 S.s

  abbrev too_heavy : Bool
  too_heavy = leb (2 ^ 62) (weight S)

  -- the rows 1 to 4 before any others
  after_four : (m : ℕ) → cond (ltb 8 S.d) 1 (cond (not (eqb (length S.coefficients) (count S.d))) 2 (cond (ltb 7 S.k) 3 (cond misframed 4 m))) ≡ or_else (range_refusal S) m
  unfolding table first range_refusal
  after_four m = four_rows (ltb 8 S.d) (not (eqb (length S.coefficients) (count S.d))) (ltb 7 S.k) misframed m

  -- the rows of each call
  pub check_rows : refusal (to_check S) ≡ or_else (range_refusal S) (cond too_heavy 6 0)
  unfolding table first
  check_rows = after_four (cond too_heavy 6 0)

  -- at a point: what check tries, and then row 8
  pub point_rows : (u v : ℤ) → refusal (at_point S u v) ≡ or_else (refusal (to_check S)) (cond (misplaced S (point u v)) 8 0)
  unfolding table first
  point_rows u v =
      let m : ℕ = cond (misplaced S (point u v)) 8 0 in
      after_four (cond too_heavy 6 m) ∙ one_row (range_refusal S) too_heavy m ∙ ap (λ n. or_else n m) (sym check_rows)

  pub mode_rows : (mode : ℕ) → mode_refusal S mode ≡ or_else (range_refusal S) (cond (ltb 1 mode) 5 (cond too_heavy 6 0))
  unfolding table first mode_refusal
  mode_rows mode = after_four (cond (ltb 1 mode) 5 (cond too_heavy 6 0))

  -- the rows 1 to 6 before any others
  after_six : (mode m : ℕ) → or_else (range_refusal S) (cond (ltb 1 mode) 5 (cond too_heavy 6 m)) ≡ or_else (mode_refusal S mode) m
  after_six mode m = two_rows (range_refusal S) (ltb 1 mode) too_heavy m ∙ ap (λ n. or_else n m) (sym (mode_rows mode))

  pub cell_rows : (mode j p q : ℕ) → refusal (in_cell S mode j p q) ≡ or_else (mode_refusal S mode) (cond (misplaced S (cell j p q)) 8 0)
  unfolding table first
  cell_rows mode j p q = after_four (cond (ltb 1 mode) 5 (cond too_heavy 6 (cond (misplaced S (cell j p q)) 8 0))) ∙ after_six mode (cond (misplaced S (cell j p q)) 8 0)

  pub walk_rows : (mode n : ℕ) → refusal (to_walk S mode n) ≡ or_else (mode_refusal S mode) (cond (ltb n (4 ^ S.k)) 7 (cond (ltb 65_535 (visited (verdict S (mode_of mode)) S.k)) 9 0))
  unfolding table first
  walk_rows mode n =
      let m : ℕ = cond (ltb n (4 ^ S.k)) 7 (cond (ltb 65_535 (visited (verdict S (mode_of mode)) S.k)) 9 0) in
      after_four (cond (ltb 1 mode) 5 (cond too_heavy 6 m)) ∙ after_six mode m

-- ---- the rows 1 to 4, one after the other
module _ (S : Sheet) where
  pub range_1 : 8 < S.d → 1 ≡ range_refusal S
  unfolding table first range_refusal
  range_1 h = rw (lt-ltb 8 S.d h)

  module _ (degree : S.d ≤ 8) where
    pub range_2 : (length S.coefficients ≡ count S.d → ⊥) → 2 ≡ range_refusal S
    unfolding table first range_refusal
    range_2 h = rw (le-ltb 8 S.d degree, ne_eqb (length S.coefficients) (count S.d) h)

    module _ (counted : length S.coefficients ≡ count S.d) where
      pub range_3 : 7 < S.k → 3 ≡ range_refusal S
      unfolding table first range_refusal
      range_3 h = rw (le-ltb 8 S.d degree, eq-eqb (length S.coefficients) (count S.d) counted, lt-ltb 7 S.k h)

      range_last : S.k ≤ 7 → range_refusal S ≡ cond (misframed S) 4 0
      unfolding table first range_refusal
      range_last h = rw (le-ltb 8 S.d degree, eq-eqb (length S.coefficients) (count S.d) counted, le-ltb 7 S.k h)

-- ---- where none of them holds, all is in range
pub both_zero : (n m : ℕ) → or_else n m ≡ 0 → (n ≡ 0) × (m ≡ 0)
both_zero zero m e = (refl, e)
both_zero (suc n) m e = absurd (omega arith)

pub next_row : (b : Bool) (n m : ℕ) → cond b (suc n) m ≡ 0 → (b ≡ false) × (m ≡ 0)
next_row true n m e = absurd (omega arith)
next_row false n m e = (refl, e)

pub or_both : (a b : Bool) → a || b ≡ false → (a ≡ false) × (b ≡ false)
or_both true b e = absurd (subst T e tt)
or_both false b e = (refl, e)

in_size : (z : ℤ) → outside_range z ≡ false → nat_abs z ≤ 1_048_576
in_size z e = ltb-false 1_048_576 (nat_abs z) (sym (outside_size z) ∙ e)

pub range_passed : (S : Sheet) → range_refusal S ≡ 0 → InRange S
unfolding table first range_refusal
range_passed S e =
    let r1 = next_row (ltb 8 S.d) 0 _ e in let r2 = next_row (not (eqb (length S.coefficients) (count S.d))) 1 _ r1.1 in
    let r3 = next_row (ltb 7 S.k) 2 _ r2.1 in let r4 = next_row (misframed S) 3 0 r3.1 in
    let xy = or_both (outside_range S.X || outside_range S.Y) (ltb 10 S.s) r4.0 in let x = or_both (outside_range S.X) (outside_range S.Y) xy.0 in
    record {
      degree = ltb-false 8 S.d r1.0;
      counted = eqb-true (length S.coefficients) (count S.d) (not-false (eqb (length S.coefficients) (count S.d)) r2.0);
      depth = ltb-false 7 S.k r3.0;
      corner_x = in_size S.X x.0;
      corner_y = in_size S.Y x.1;
      side = ltb-false 10 S.s xy.1;
    }

-- ---- and where the weight is below the ceiling, the sheet is accepted
pub heavy : (S : Sheet) {w : ℕ} → w ≡ min (weight S) (2 ^ 62) → w ≡ 2 ^ 62 → leb (2 ^ 62) (weight S) ≡ true
heavy S e h = le-leb (2 ^ 62) (weight S) (min_met (2 ^ 62) (weight S) (sym e ∙ h))

pub not_heavy : (S : Sheet) {w : ℕ} → w ≡ min (weight S) (2 ^ 62) → (w ≡ 2 ^ 62 → ⊥) → leb (2 ^ 62) (weight S) ≡ false
not_heavy S {w} e h = lt-leb (2 ^ 62) (weight S) (omega (arith, h))

pub check_passed : (S : Sheet) → refusal (to_check S) ≡ 0 → Accepted S
check_passed S e =
    let r = both_zero (range_refusal S) _ (sym (check_rows S) ∙ e) in let w = next_row (leb (2 ^ 62) (weight S)) 5 0 r.1 in
    record { ranges = range_passed S r.0; light = leb-false (2 ^ 62) (weight S) w.0 }

pub point_passed : (S : Sheet) (u v : ℤ) → refusal (at_point S u v) ≡ 0 → Accepted S × (misplaced S (point u v) ≡ false)
point_passed S u v e = let r = both_zero (refusal (to_check S)) _ (sym (point_rows S u v) ∙ e) in (check_passed S r.0, (next_row (misplaced S (point u v)) 7 0 r.1).0)

pub mode_passed : (S : Sheet) (mode : ℕ) → mode_refusal S mode ≡ 0 → Accepted S × (mode ≤ 1)
mode_passed S mode e =
    let r = both_zero (range_refusal S) _ (sym (mode_rows S mode) ∙ e) in let o = next_row (ltb 1 mode) 4 _ r.1 in let w = next_row (leb (2 ^ 62) (weight S)) 5 _ o.1 in
    (record { ranges = range_passed S r.0; light = leb-false (2 ^ 62) (weight S) w.0 }, ltb-false 1 mode o.0)

pub cell_passed : (S : Sheet) (mode j p q : ℕ) → refusal (in_cell S mode j p q) ≡ 0 → Accepted S × (mode ≤ 1) × IsCell S.k j p q
cell_passed S mode j p q e =
    let r = both_zero (mode_refusal S mode) _ (sym (cell_rows S mode j p q) ∙ e) in let o = mode_passed S mode r.0 in
    let m = next_row (misplaced S (cell j p q)) 7 0 r.1 in let b = or_both (ltb S.k j || leb (2 ^ j) p) (leb (2 ^ j) q) m.0 in let a = or_both (ltb S.k j) (leb (2 ^ j) p) b.0 in
    (o.0, o.1, record { level = ltb-false S.k j a.0; column = leb-false (2 ^ j) p a.1; row = leb-false (2 ^ j) q b.1 })

-- a walk that is not refused has a place for the whole raster
pub walk_passed : (S : Sheet) (mode n : ℕ) → refusal (to_walk S mode n) ≡ 0 → Accepted S × (mode ≤ 1) × (4 ^ S.k ≤ n)
walk_passed S mode n e =
    let r = both_zero (mode_refusal S mode) _ (sym (walk_rows S mode n) ∙ e) in let o = mode_passed S mode r.0 in let m = next_row (ltb n (4 ^ S.k)) 6 _ r.1 in
    (o.0, o.1, ltb-false n (4 ^ S.k) m.0)

-- row 9 does not hold where k is at most 7: visited is at most (4^8 - 1)/3
pub no_row_9 : (S : Sheet) (mode : ℕ) → S.k ≤ 7 → ltb 65_535 (visited (verdict S (mode_of mode)) S.k) ≡ false
no_row_9 S mode h =
    let v = visited_between (verdict S (mode_of mode)) S.k in let l : S.k + 1 ≤ 8 = omega arith in let m : 4 ^ (S.k + 1) ≤ 4 ^ 8 = Nat.pow-le-pow_right {n = 4} (lit< tt) l in
    le-ltb 65_535 (visited (verdict S (mode_of mode)) S.k) (omega arith)

-- ---- row 4, by its three tests
module _ (S : Sheet) (degree : S.d ≤ 8) (counted : length S.coefficients ≡ count S.d) (depth : S.k ≤ 7) where
  pub range_4_x : outside_range S.X ≡ true → 4 ≡ range_refusal S
  range_4_x e = sym (range_last S degree counted depth ∙ rw e)

  module _ (inside-x : outside_range S.X ≡ false) where
    pub range_4_y : outside_range S.Y ≡ true → 4 ≡ range_refusal S
    range_4_y e = sym (range_last S degree counted depth ∙ rw (inside-x, e))

    module _ (inside-y : outside_range S.Y ≡ false) where
      pub range_4_s : 10 < S.s → 4 ≡ range_refusal S
      range_4_s h = sym (range_last S degree counted depth ∙ rw (inside-x, inside-y, lt-ltb 10 S.s h))

      pub range_0 : S.s ≤ 10 → 0 ≡ range_refusal S
      range_0 h = sym (range_last S degree counted depth ∙ rw (inside-x, inside-y, le-ltb 10 S.s h))

-- so what is in range is refused by none of them
pub no_range_refusal : (S : Sheet) → InRange S → range_refusal S ≡ 0
no_range_refusal S r = sym (range_0 S r.degree r.counted r.depth (outside_size S.X ∙ le-ltb 1_048_576 _ r.corner_x) (outside_size S.Y ∙ le-ltb 1_048_576 _ r.corner_y) r.side)

-- ---- a number that is not 0 stays; after 0 the rest decides
pub stays : (n m : ℕ) → (n ≡ 0 → ⊥) → n ≡ or_else n m
stays zero m h = absurd (h refl)
stays (suc n) m h = refl

pub rest : {n : ℕ} (m : ℕ) → n ≡ 0 → or_else n m ≡ m
rest m e = rw e

-- ---- an answer, by the refusal's number n
module _ {X : Type 0} (refused : ℕ → X) (values : X) where
  pub unless_refused : (n : ℕ) → (n ≡ 0 → ⊥) → refused n ≡ unless n refused values
  unless_refused zero h = absurd (h refl)
  unless_refused (suc n) h = refl

  pub unless_none : (n : ℕ) → n ≡ 0 → values ≡ unless n refused values
  unless_none zero e = refl
  unless_none (suc n) e = absurd (omega arith)

-- a function of an answer is the answer of the function
pub unless_ap : {X Y : Type 0} (f : X → Y) (n : ℕ) (r : ℕ → X) (v : X) → f (unless n r v) ≡ unless n (λ m. f (r m)) (f v)
unless_ap f zero r v = refl
unless_ap f (suc n) r v = refl

-- where a refusal states its own number and the values state 0, an answer states n
pub unless_number : {X : Type 0} (number : X → ℕ) (n : ℕ) {r : ℕ → X} {v x : X} → ((m : ℕ) → number (r m) ≡ m) → number v ≡ 0 → x ≡ unless n r v → number x ≡ n
unless_number number zero p q e = ap number e ∙ q
unless_number number (suc n) p q e = ap number e ∙ p (suc n)
