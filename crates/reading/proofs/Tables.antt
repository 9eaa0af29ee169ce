-- Two tables of 9 by 9 places hold the terms of a text: their coefficients, and which of them are named.
use mathlib.Core.Path.{◌≡◌, refl, sym, ◌∙◌, ap, ap₂}
use mathlib.Core.Bool.{Bool, true, false, ◌||◌, cond}
use mathlib.Core.List.{List, [], ◌∷◌}
use Prim.Native.Nat.{ℕ, ◌+◌, ◌≤◌, ◌<◌}
use native.Mathlib.Decide.{ℕ_discrete}
use native.Mathlib.Omega.{arith}
use borrow.Author.Tests.{ltb-false, eqb-true, le-ltb, eq-eqb, ne_eqb}
use lib.Dec.{ltb, eqb}
use lib.IntN.{ℤ, pos}
use lib.ListN.{length, get_or, set, replicate, length-set, length-replicate, get_or-replicate}
use lib.Seq.{get_or-set_same, get_or-set_other}
use Rattle.algebra.proofs.Choice.{same_test, and_left, and_right, and_both}
use Rattle.page.proofs.Rows.{or_both}
use Rattle.std.specs.Prelude.{Result, Ok, Err}
use Rattle.page.specs.declared.Refusal.{Refusal}
use Rattle.page.specs.declared.Refusal.TheVariants.{Beyond, Twice}
use Rattle.page.specs.SheetText.{Term, is_term, is_named, is_beyond}
use Rattle.reading.specs.Steps.{place_of, term_fault_in, Tables}

-- ---- places: the term i, j stands at 9i + j, and no other stands there
place_within : (i j : ℕ) → i ≤ 8 → j ≤ 8 → place_of i j < 81
place_within i j h k = omega arith

is_here : (t : Term) (i j : ℕ) → t.i ≤ 8 → t.j ≤ 8 → i ≤ 8 → j ≤ 8 → is_term i j t ≡ eqb (place_of i j) (place_of t.i t.j)
is_here t i j p q h k = same_test (is_term i j t) (eqb (place_of i j) (place_of t.i t.j))
    (λ e. let a = eqb-true t.i i (and_left (eqb t.i i) (eqb t.j j) e) in let b = eqb-true t.j j (and_right (eqb t.i i) (eqb t.j j) e) in eq-eqb (place_of i j) (place_of t.i t.j) (omega arith))
    (λ e. let a = eqb-true (place_of i j) (place_of t.i t.j) e in and_both (eqb t.i i) (eqb t.j j) (eq-eqb t.i i (omega arith)) (eq-eqb t.j j (omega arith)))

-- an entry after a store
stored : {X : Type 0} (l : List X) (p q : ℕ) (a z : X) → p < length l → get_or (set l p a) q z ≡ cond (eqb q p) a (get_or l q z)
stored l p q a z h = elim (ℕ_discrete q p) [
  | yes e ↦ ap (λ n. get_or (set l p a) n z) e ∙ get_or-set_same l p a z h ∙ sym (ap (λ b. cond b a (get_or l q z)) (eq-eqb q p e))
  | no o ↦ get_or-set_other l p q a z o ∙ sym (ap (λ b. cond b a (get_or l q z)) (ne_eqb q p o))
]

-- ---- no terms
pub no_terms : Tables [] (replicate 81 (pos 0)) (replicate 81 0)
no_terms =
    record {
      long = length-replicate 81 (pos 0);
      marks = length-replicate {A = ℕ} 81 0;
      each = λ i j h k. get_or-replicate 81 (place_of i j) (pos 0) (pos 0) (place_within i j h k);
      names = λ i j h k. get_or-replicate {A = ℕ} 81 (place_of i j) 0 0 (place_within i j h k);
    }

-- ---- what is wrong with a term
module _ (d i j : ℕ) where
  -- within the degree, and no exponent above 8
  not_beyond : is_beyond d i j ≡ false → (i ≤ 8) × (j ≤ 8) × (i + j ≤ d)
  not_beyond e =
      let (a, c) = or_both (ltb d (i + j) || ltb 8 i) (ltb 8 j) e in let (s, b) = or_both (ltb d (i + j)) (ltb 8 i) a in
      (ltb-false 8 i b, ltb-false 8 j c, ltb-false d (i + j) s)

  -- it is beyond the degree, where it is not
  pub beyond_degree : (i ≤ 8 → j ≤ 8 → i + j ≤ d → ⊥) → (named : List ℕ) → Err Beyond ≡ term_fault_in d i j named
  unfolding term_fault_in
  beyond_degree h named = by (is_beyond d i j) refl _
    where
      by : (b : Bool) → is_beyond d i j ≡ b → (n : Result Unit Refusal) → Err Beyond ≡ cond b (Err Beyond) n
      by true e n = refl
      by false e n = let (p, q, r) = not_beyond e in absurd (h p q r)

  -- and else by the mark at its own place
  module _ (h : i ≤ 8) (k : j ≤ 8) (l : i + j ≤ d) (named : List ℕ) {at : ℕ} (here : at ≡ place_of i j) where
    by_mark : term_fault_in d i j named ≡ cond (eqb (get_or named at 0) 0) (Ok tt) (Err Twice)
    unfolding term_fault_in
    by_mark = let a = le-ltb d (i + j) l in let b = le-ltb 8 i h in let c = le-ltb 8 j k in rw (a, b, c) (ap (λ n. cond (eqb (get_or named n 0) 0) (Ok tt) (Err Twice)) (sym here))

    pub marked_twice : (get_or named at 0 ≡ 0 → ⊥) → Err Twice ≡ term_fault_in d i j named
    marked_twice n = sym (by_mark ∙ ap (λ b. cond b (Ok tt) (Err Twice)) (ne_eqb (get_or named at 0) 0 n))

    pub unmarked : get_or named at 0 ≡ 0 → Ok tt ≡ term_fault_in d i j named
    unmarked e = sym (by_mark ∙ ap (λ b. cond b (Ok tt) (Err Twice)) (eq-eqb (get_or named at 0) 0 e))

  -- a term with no fault has its place in the tables
  pub faultless : (named : List ℕ) → term_fault_in d i j named ≡ Ok tt → (i ≤ 8) × (j ≤ 8)
  unfolding term_fault_in
  faultless named = by (is_beyond d i j) refl _
    where
      by : (b : Bool) → is_beyond d i j ≡ b → (n : Result Unit Refusal) → cond b (Err Beyond) n ≡ Ok tt → (i ≤ 8) × (j ≤ 8)
      by true e n z = cc
      by false e n z = let (p, q, _) = not_beyond e in (p, q)

-- a term's fault, by what the text has named
abbrev pub fault_told : Bool → Bool → Result Unit Refusal
fault_told beyond twice = cond beyond (Err Beyond) (cond twice (Err Twice) (Ok tt))

-- a mark, and the marks of two
marked : (b : Bool) → ◌≡◌ {A = Result Unit Refusal} (cond (eqb (cond b 1 0) 0) (Ok tt) (Err Twice)) (cond b (Err Twice) (Ok tt))
marked true = refl
marked false = refl

either : (a b : Bool) → ◌≡◌ {A = ℕ} (cond a 1 (cond b 1 0)) (cond (a || b) 1 0)
either true b = refl
either false b = refl

module _ {ts : List Term} {values : List ℤ} {named : List ℕ} (tables : Tables ts values named) where
  -- the marks say which terms the text has named
  pub fault_in_text : (d i j : ℕ) → term_fault_in d i j named ≡ fault_told (is_beyond d i j) (is_named i j ts)
  unfolding term_fault_in
  fault_in_text d i j = by (is_beyond d i j) refl
    where
      by : (b : Bool) → is_beyond d i j ≡ b → cond b (Err Beyond) (cond (eqb (get_or named (place_of i j) 0) 0) (Ok tt) (Err Twice)) ≡ fault_told b (is_named i j ts)
      by true e = refl
      by false e = let (p, q, _) = not_beyond d i j e in ap (λ n. cond (eqb n 0) (Ok tt) (Err Twice)) (tables.names i j p q) ∙ marked (is_named i j ts)

  -- a term that is entered is one that they hold
  pub enter_kept : (t : Term) → t.i ≤ 8 → t.j ≤ 8 → Tables (t ∷ ts) (set values (place_of t.i t.j) t.coefficient) (set named (place_of t.i t.j) 1)
  enter_kept t h k =
      let p = place_of t.i t.j in
      record {
        long = length-set values p t.coefficient ∙ tables.long;
        marks = length-set named p 1 ∙ tables.marks;
        each = λ i j m n.
            stored values p (place_of i j) t.coefficient (pos 0) (let l = tables.long in omega arith)
            ∙ ap₂ (λ b z. cond b t.coefficient z) (sym (is_here t i j h k m n)) (tables.each i j m n);
        names = λ i j m n.
            stored named p (place_of i j) 1 0 (let l = tables.marks in omega arith)
            ∙ ap₂ (λ b z. cond b 1 z) (sym (is_here t i j h k m n)) (tables.names i j m n) ∙ either (is_term i j t) (is_named i j ts);
      }
