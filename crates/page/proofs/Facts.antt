-- What the page says of its definitions holds.
use mathlib.Core.Path.{◌≡◌, refl, sym, ◌∙◌, ap}
use mathlib.Core.Bool.{Bool, true, false, ◌&&◌}
use mathlib.Core.List.Memᴰ
use mathlib.Core.List.{List, [], ◌∷◌, ◌++◌, Memᴰ}
use mathlib.Core.Logic.{⊎_elim}
use Prim.Native.Nat.{ℕ, ◌+◌, ◌*◌, ◌-◌, ◌^◌, ◌≤◌}
use native.Mathlib.Nat as Nat
use native.Mathlib.Omega.{arith}
use borrow.Author.Tests.{ltb-true, lt-leb}
use lib.Dec.{ltb}
use lib.IntN.{ℤ, pos, ◌+ℤ◌, ◌-ℤ◌, ◌*ℤ◌, nat_abs, pow}
use Rattle.algebra.specs.Sum.{sum, ◌⋯◌}
use Rattle.algebra.proofs.Choice.{and_left, and_right}
use Rattle.algebra.proofs.Integer.{*ℤ_idl, *ℤ_idr}
use Rattle.algebra.proofs.Power.{pow_+, *ℤ_pow, pos_pow, one_powℕ}
use Rattle.algebra.proofs.Order.{≤ℤ_trans}
use Rattle.algebra.proofs.Ring.{ring, ◌⊕◌, ◌⊖◌, ◌⊗◌, #◌, ◌≐◌}
use Rattle.algebra.proofs.Sum.{sum_cong, *ℤ-sum}
use Rattle.algebra.proofs.Run.{⋯_member}
use Rattle.algebra.proofs.Places.{row_start_all, places_45}
use Rattle.forms.specs.Vectors.{total}
use Rattle.forms.specs.Points.{powers}
use Rattle.forms.specs.LocalForm.{local}
use Rattle.forms.specs.Plane.{pair}
use Rattle.forms.proofs.Plane.{scale_page, value_pair, sum_plane}
use Rattle.forms.proofs.Taylor.{local_formula}
use Rattle.page.specs.Sheet.{A}
use Rattle.page.specs.Scaled.{scaled, half_side, U0, V0, value_at, f_at}
use Rattle.page.specs.Bounds.{lower, upper}
use Rattle.page.specs.Weight.{weight, Accepted}
use Rattle.page.specs.Refusals.{Row, table, first, refusal, to_check}
use Rattle.page.specs.Facts.{ScalesF, AtWhole, SameFraction, BoundsInOrder, SharedEdges, Expands, AtMost45, AcceptedByCheck, GivenBy, GivenExactly, NoneGiven}
use Rattle.page.proofs.Rows.{check_rows, check_passed, no_range_refusal, rest}
use Rattle.page.proofs.Demand3.{contained}
use Rattle.page.proofs.Page.{polynomial, centre, F_is, G_is, value_is}

-- ---- F and f
pub at_whole : AtWhole
at_whole S u v = value_is S u v 1 ∙ sym (F_is S u v)

-- a factor K^(d-i-j)·K^i·K^j of each term is a factor K^d of the sum
factor_out : (d : ℕ) (K : ℤ) (t u : ℕ → ℕ → ℤ) → ((i j : ℕ) → t i j ≡ pow K (d - i - j) *ℤ pow K i *ℤ pow K j *ℤ u i j)
    → sum (0 ⋯ d) (λ i. sum (0 ⋯ (d - i)) (t i)) ≡ pow K d *ℤ sum (0 ⋯ d) (λ i. sum (0 ⋯ (d - i)) (u i))
factor_out d K t u h =
    sum_cong (0 ⋯ d) (λ i m. sum_cong (0 ⋯ (d - i)) (λ j l.
    let x = ⋯_member 0 d m in let y = ⋯_member 0 (d - i) l in let e : d - i - j + i + j ≡ d = omega arith in
    let whole : pow K (d - i - j) *ℤ pow K i *ℤ pow K j ≡ pow K d = sym (ap (λ z. z *ℤ pow K j) (pow_+ K (d - i - j) i)) ∙ sym (pow_+ K (d - i - j + i) j) ∙ ap (pow K) e in
    h i j ∙ ap (λ z. z *ℤ u i j) whole))
    ∙ sym (*ℤ-sum (pow K d) (0 ⋯ d) _ ∙ sum_cong (0 ⋯ d) (λ i m. *ℤ-sum (pow K d) (0 ⋯ (d - i)) (u i)))

pub scales_F : ScalesF
unfolding value_at f_at
scales_F S M N Q =
    let K = pos (2 ^ (S.k + 1)) in let d = S.d in
    rw (← (scale_page S.k d)) (factor_out d K _ _ (λ i j. rw (*ℤ_pow K M i, *ℤ_pow K N j, ← (scale_page S.k (d - i - j)))
    (ring (A S i j ∷ pow K (d - i - j) ∷ pow K i ∷ pow K j ∷ pow M i ∷ pow N j ∷ pow (pos Q) (d - i - j) ∷ []) (λ a s t u m n q. a ⊗ s ⊗ (t ⊗ m) ⊗ (u ⊗ n) ⊗ q ≐ s ⊗ t ⊗ u ⊗ (a ⊗ m ⊗ n ⊗ q)) tt)))

pub same_fraction : SameFraction
unfolding value_at
same_fraction S M N Q c =
    let K = pos c in let d = S.d in
    rw (← (pos_pow c d)) (factor_out d K _ _ (λ i j. rw (*ℤ_pow K M i, *ℤ_pow K N j, *ℤ_pow K (pos Q) (d - i - j))
    (ring (scaled S i j ∷ pow K (d - i - j) ∷ pow K i ∷ pow K j ∷ pow M i ∷ pow N j ∷ pow (pos Q) (d - i - j) ∷ []) (λ a s t u m n q. a ⊗ (t ⊗ m) ⊗ (u ⊗ n) ⊗ (s ⊗ q) ≐ s ⊗ t ⊗ u ⊗ (a ⊗ m ⊗ n ⊗ q)) tt)))

-- ---- bounds: the centre of the cell lies between them
pub bounds_in_order : BoundsInOrder
bounds_in_order S mode j p q =
    let b = rw (one_powℕ S.d, *ℤ_idl (lower S mode j p q), *ℤ_idl (upper S mode j p q)) at (contained S mode j p q (U0 S j p) (V0 S j q) 1 (record { across = here (U0 S j p); along = here (V0 S j q) })) in
    ≤ℤ_trans b.0 b.1
  where
    here : (u : ℤ) → nat_abs (u -ℤ pos 1 *ℤ u) ≤ 1 * half_side S j
    here u = rw (ring (u ∷ []) (λ u. u ⊖ # 1 ⊗ u ≐ # 0) tt) (omega arith)

-- ---- cells
pub shared_edges : SharedEdges
shared_edges S j p q = (edge S.X p, edge S.Y q)
  where
    edge : (z : ℤ) (p : ℕ) → pos (2 ^ (S.k + 1)) *ℤ z +ℤ pos ((2 * p + 1) * half_side S j) +ℤ pos (half_side S j) ≡ pos (2 ^ (S.k + 1)) *ℤ z +ℤ pos ((2 * (p + 1) + 1) * half_side S j) -ℤ pos (half_side S j)
    edge z p = ring (pos (2 ^ (S.k + 1)) ∷ z ∷ pos p ∷ pos (half_side S j) ∷ []) (λ n x p h. n ⊗ x ⊕ (# 2 ⊗ p ⊕ # 1) ⊗ h ⊕ h ≐ n ⊗ x ⊕ (# 2 ⊗ (p ⊕ # 1) ⊕ # 1) ⊗ h ⊖ h) tt

pub expands : Expands
unfolding powers total
expands S j p q M N Q =
    value_is S _ _ Q ∙ sym (value_pair S.d (2 ^ (S.k + 1)) (A S) (λ v. pos Q *ℤ centre S j p q v +ℤ pos (half_side S j) *ℤ pair M N v) Q)
    ∙ local_formula (polynomial S) (centre S j p q) (half_side S j) (pair M N) Q
    ∙ sum_plane S.d (λ x. local (polynomial S) (centre S j p q) (half_side S j) x *ℤ powers (pair M N) x *ℤ pow (pos Q) (S.d - total x))
    ∙ sum_cong (0 ⋯ S.d) (λ a m. sum_cong (0 ⋯ (S.d - a)) (λ b n. rw (*ℤ_idr, ← G_is S j p q a b, Nat.add-zero, Nat.sub-add-eq)))

-- ---- sheets
pub at_most_45 : AtMost45
at_most_45 d h = rw (row_start_all d) at (places_45 d h)

-- ---- accepted, by the definition and by check
pub accepted_by_check : AcceptedByCheck
accepted_by_check S = (passes, check_passed S)
  where
    passes : Accepted S → refusal (to_check S) ≡ 0
    passes a = check_rows S ∙ rest _ (no_range_refusal S a.ranges) ∙ rw (lt-leb (2 ^ 62) (weight S) a.light)

-- ---- the number of a row is given exactly when it holds and nothing tried before it does
skipped : (r : Row) (rs : List Row) → r.holds ≡ false → first (r ∷ rs) ≡ first rs
unfolding first
skipped r rs e = rw e

taken : (r : Row) (rs : List Row) → r.holds ≡ true → first (r ∷ rs) ≡ r.number
unfolding first
taken r rs e = rw e

past : (before : List Row) (r : Row) (after : List Row) → ((b : Row) → Memᴰ b before → b.holds ≡ false) → r.holds ≡ true → first (before ++ (r ∷ after)) ≡ r.number
past [] r after none e = taken r after e
past (b ∷ bs) r after none e = skipped b (bs ++ (r ∷ after)) (none b (Memᴰ.head refl)) ∙ past bs r after (λ c m. none c (Memᴰ.tail m)) e

-- the rows from the first one on
after_row : (n : ℕ) (r : Row) (rs : List Row) (b : Bool) → r.holds ≡ b → first (r ∷ rs) ≡ n → (first rs ≡ n → GivenBy rs n) → GivenBy (r ∷ rs) n
after_row n r rs true w e k = record { before = []; row = r; after = rs; split = refl; number = sym (taken r rs w) ∙ e; holds = w; nothing_before = λ b m. absurd (Memᴰ.not-nil m) }
after_row n r rs false w e k = let g = k (sym (skipped r rs w) ∙ e) in
    record {
      before = r ∷ g.before;
      row = g.row;
      after = g.after;
      split = ap (λ x. r ∷ x) g.split;
      number = g.number;
      holds = g.holds;
      nothing_before = λ b m. ⊎_elim (λ q. ap (λ x. x.holds) q ∙ w) (λ k. g.nothing_before b k) (Memᴰ.cases_cons m);
    }

found : (n : ℕ) (rows : List Row) → (n ≡ 0 → ⊥) → first rows ≡ n → GivenBy rows n
unfolding first
found n [] h e = absurd (h (sym e))
found n (r ∷ rs) h e = after_row n r rs r.holds refl e (found n rs h)

pub given_exactly : GivenExactly
given_exactly rows n h = (found n rows h, λ g. ap first g.split ∙ past g.before g.row g.after g.nothing_before g.holds ∙ g.number)

-- ---- and 0 exactly when no row holds, since every row of the table has a number
abbrev numbered : List Row → Bool
numbered [] = true
numbered (r ∷ rs) = ltb 0 r.number && numbered rs

missed : (r : Row) (rs : List Row) (b : Bool) → r.holds ≡ b → ltb 0 r.number ≡ true → first (r ∷ rs) ≡ 0 → r.holds ≡ false
missed r rs true w n e = let z : r.number ≡ 0 = sym (taken r rs w) ∙ e in let l = ltb-true 0 r.number n in absurd (omega arith)
missed r rs false w n e = w

none_holds : (rows : List Row) → numbered rows ≡ true → first rows ≡ 0 → (r : Row) → Memᴰ r rows → r.holds ≡ false
none_holds [] n e r m = absurd (Memᴰ.not-nil m)
none_holds (x ∷ xs) n e r m =
    let w = missed x xs x.holds refl (and_left (ltb 0 x.number) (numbered xs) n) e in
    ⊎_elim (λ q. ap (λ x. x.holds) q ∙ w) (none_holds xs (and_right (ltb 0 x.number) (numbered xs) n) (sym (skipped x xs w) ∙ e) r) (Memᴰ.cases_cons m)

all_skipped : (rows : List Row) → ((r : Row) → Memᴰ r rows → r.holds ≡ false) → first rows ≡ 0
unfolding first
all_skipped [] h = refl
all_skipped (r ∷ rs) h = skipped r rs (h r (Memᴰ.head refl)) ∙ all_skipped rs (λ b m. h b (Memᴰ.tail m))

pub none_given : NoneGiven
unfolding table
none_given c = (none_holds (table c) refl, all_skipped (table c))
