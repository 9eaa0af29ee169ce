-- Rows moved. One row by Horner's rule, in its own places: what holds where it has come down to i. And the rows of a table, one after the other.
use mathlib.Core.Path.{◌≡◌, refl, sym, ◌∙◌, ap, ap₂, subst, fun_ext}
use mathlib.Core.List.{List, [], ◌∷◌}
use Prim.Native.Nat.{ℕ, zero, suc, ◌+◌, ◌*◌, ◌-◌, ◌^◌, ◌≤◌, ◌<◌}
use native.Mathlib.Nat as Nat
use native.Mathlib.Decide.{dec_le}
use native.Mathlib.Omega.{arith}
use lib.IntN.{ℤ, pos, ◌+ℤ◌, ◌*ℤ◌, nat_abs}
use lib.ListN.{length}
use Rattle.algebra.specs.Horner.{shifted, load}
use Rattle.algebra.specs.Triangle.{place}
use Rattle.algebra.proofs.Horner.{shifted_zero, shifted_suc, shifted_over, shifted_all, shifted_size, load_next, load_whole}
use Rattle.algebra.proofs.Places.{place_all}
use Rattle.algebra.proofs.Ring.{ring, ◌⊕◌, ◌⊗◌, ◌≐◌, #◌}
use Rattle.forms.specs.Plane.{along}
use Rattle.tables.specs.Table.{at, row_of, held_from}
use Rattle.tables.specs.Moves.{Addable, Added, RowMovable, RowMoved, RowsMovable}
use Rattle.tables.proofs.Setting.{RowSet, Setting}

-- ---- one step of the rule: to what stands at a, s times the coefficient of t^a so far; at 0 stands c(j), and further up the coefficient below
abbrev standing : (ℕ → ℤ) → ℤ → ℕ → ℕ → ℕ → ℤ
standing c s n j zero = c j
standing c s n j (suc a) = shifted c s (pos 1) n (suc j) a

module _ (c : ℕ → ℤ) (s : ℤ) (n : ℕ) where
  step : (j a : ℕ) → j ≤ n → standing c s n j a +ℤ s *ℤ shifted c s (pos 1) n (suc j) a ≡ shifted c s (pos 1) n j a
  step j zero l = ring (c j ∷ s ∷ shifted c s (pos 1) n (suc j) 0 ∷ []) (λ c s x. c ⊕ s ⊗ x ≐ x ⊗ s ⊕ c ⊗ # 1) tt ∙ sym (shifted_zero c s (pos 1) n j l)
  step j (suc a) l =
      ring (s ∷ shifted c s (pos 1) n (suc j) a ∷ shifted c s (pos 1) n (suc j) (suc a) ∷ []) (λ s y x. y ⊕ s ⊗ x ≐ x ⊗ s ⊕ y ⊗ # 1) tt ∙ sym (shifted_suc c s (pos 1) n j a l)

  -- nothing is added to the last one
  step_last : (j a : ℕ) → j + a ≡ n → standing c s n j a ≡ shifted c s (pos 1) n j a
  step_last j a e =
      ring (standing c s n j a ∷ s ∷ []) (λ x s. x ≐ x ⊕ s ⊗ # 0) tt ∙ ap (λ x. standing c s n j a +ℤ s *ℤ x) (sym (shifted_over c s (pos 1) n (suc j) a (omega arith))) ∙ step j a (omega arith)

  -- the sum is at most the load
  standing_size : (j a : ℕ) → nat_abs (standing c s n j a) ≤ load c (nat_abs s + 1) n (suc j) + nat_abs (c j)
  standing_size j zero = omega arith
  standing_size j (suc a) = let h = shifted_size c s (pos 1) n (suc j) a in omega arith

  step_size : (j a : ℕ) → j ≤ n → nat_abs (standing c s n j a) + nat_abs s * nat_abs (shifted c s (pos 1) n (suc j) a) ≤ load c (nat_abs s + 1) n j
  step_size j a l =
      let b = load c (nat_abs s + 1) n (suc j) in let e = load_next c (nat_abs s + 1) n j l in let h = standing_size j a in
      let m = Nat.mul-le-mul_left (nat_abs s) (shifted_size c s (pos 1) n (suc j) a) in let k = Nat.mul_comm (nat_abs s) b in let q = Nat.mul-add b (nat_abs s) 1 in omega arith

-- ---- the places from i up to n hold the rule's coefficients, and all else is as it was
pub record Moving (first n : ℕ) (s : ℤ) (old places : List ℤ) (i : ℕ) : Type 0 where
  pub within : i ≤ n
  pub long : length places ≡ length old
  pub row : (a : ℕ) → i + a ≤ n → at places (first + (i + a)) ≡ shifted (row_of old first) s (pos 1) n i a
  pub before : (m : ℕ) → m < first + i → at places m ≡ at old m
  pub after : (m : ℕ) → first + n < m → at places m ≡ at old m

module _ {first n : ℕ} {s : ℤ} {old : List ℤ} where
  -- at the top, c(n) alone
  pub moving_start : Moving first n s old old n
  moving_start = record {
    within = Nat.le_refl n;
    long = refl;
    row = λ a l. let z : a ≡ 0 = omega arith in rw z (ap (at old) (omega arith) ∙ step_last (row_of old first) s n n 0 (Nat.add-zero n));
    before = λ m l. refl;
    after = λ m l. refl;
  }

  -- i is one more than i - 1
  pub moving_down : {places : List ℤ} {i : ℕ} → 0 < i → Moving first n s old places i → Moving first n s old places (suc (i - 1))
  moving_down {places} {i} o p = let e : i ≡ suc (i - 1) = omega arith in subst (λ j. Moving first n s old places j) e p

  module _ {places : List ℤ} {i : ℕ} (p : Moving first n s old places (suc i)) where
    -- what the next step finds
    below : (a : ℕ) → i + a ≤ n → at places (first + i + a) ≡ standing (row_of old first) s n i a
    below zero l = ap (at places) (omega arith) ∙ p.before (first + i) (omega arith)
    below (suc a) l = ap (at places) (omega arith) ∙ p.row a (omega arith)

    above : (a : ℕ) → i + a < n → at places (first + i + 1 + a) ≡ shifted (row_of old first) s (pos 1) n (suc i) a
    above a l = ap (at places) (omega arith) ∙ p.row a (omega arith)

    pub moving_room : RowMovable first n s old → Addable (first + i) (first + i + 1) (n - i) s places
    moving_room m = record {
      above = omega arith;
      inside = let w = p.within in let l = p.long in let k = m.inside in omega arith;
      light = λ a l. rw (below a (omega arith), above a (omega arith)) (Nat.lt_of_le_of_lt (step_size (row_of old first) s n i a (omega arith)) (m.light i));
    }

    -- one step down
    pub moving_next : {new : List ℤ} → Added (first + i) (first + i + 1) (n - i) s places new → Moving first n s old new i
    moving_next {new} q = record {
      within = let w = p.within in omega arith;
      long = q.long ∙ p.long;
      row = λ a l. let e : first + (i + a) ≡ first + i + a = omega arith in ap (at new) e ∙ elim (dec_le (n - i) a) [
        | yes o ↦ q.after (first + i + a) (omega arith) ∙ below a l ∙ step_last (row_of old first) s n i a (omega arith)
        | no o ↦ q.run a (omega arith) ∙ ap₂ (λ x y. x +ℤ s *ℤ y) (below a l) (above a (omega arith)) ∙ step (row_of old first) s n i a (omega arith)
      ];
      before = λ m l. q.before m l ∙ p.before m (omega arith);
      after = λ m l. q.after m (let w = p.within in omega arith) ∙ p.after m l;
    }

  -- at 0 the row is moved
  pub moving_end : {places : List ℤ} {i : ℕ} → i ≤ 0 → Moving first n s old places i → RowMoved first n s old places
  moving_end {places} {i} o p =
      let e : i ≡ 0 = omega arith in let q = subst (λ j. Moving first n s old places j) e p in
      record { long = q.long; row = λ a l. ap (at places) (omega arith) ∙ q.row a (omega arith); before = λ m l. q.before m (omega arith); after = q.after }

-- ---- the rows of a table: the next one is still the old one, and may be moved
module _ {start d : ℕ} {R : ℕ → ℕ → ℤ → Type 0} {old places : List ℤ} {first i : ℕ} (h : i ≤ d) (p : Setting start d R old places first i) where
  next_row : row_of places first ≡ held_from old start d i
  next_row = fun_ext (λ j. let e : first + j ≡ start + place d i j = (let q = p.here in omega arith) in p.after (first + j) (omega arith) ∙ ap (at old) e)

  pub rows_inside : {s : ℤ} → RowsMovable start d s old → (d < length old) × (first + (d - i) < length old)
  rows_inside m = let q = p.here in let k = m.inside in let a = place_all d 0 d (omega arith) in let b = place_all d i (d - i) (omega arith) in (omega arith, omega arith)

  pub rows_room : {s : ℤ} → RowsMovable start d s old → RowMovable first (d - i) s places
  rows_room {s} m = record {
    inside = let l = p.long in let w = rows_inside m in omega arith;
    light = λ j. subst (λ c. load c (nat_abs s + 1) (d - i) j < 2 ^ 63) (sym next_row)
        (Nat.lt_of_le_of_lt (load_whole (held_from old start d i) (nat_abs s + 1) (d - i) j (Nat.le_refl (nat_abs s + 1)) (omega arith)) (m.light i h));
  }

  -- moved, it holds the numbers of the table moved along
  pub rows_next : {new : List ℤ} {s : ℤ} → RowMoved first (d - i) s places new → RowSet first (d - i) (λ b z. z ≡ along d (held_from old start d) s i b) places new
  unfolding along
  rows_next {new} {s} q = record {
    long = q.long;
    row = λ b l. q.row b l ∙ ap (λ c. shifted c s (pos 1) (d - i) 0 b) next_row ∙ shifted_all (held_from old start d i) s (pos 1) (d - i) b;
    before = q.before;
    after = q.after;
  }
