-- Lines and fields, cut off one after the other: at the first LF, and at the first tab.
use mathlib.Core.Path.{◌≡◌, refl, sym, ◌∙◌, ap}
use mathlib.Core.Bool.{Bool, true, false, cond}
use mathlib.Core.List.{List, [], ◌∷◌}
use Prim.Native.Nat.{ℕ, suc, ◌+◌, ◌-◌, ◌≤◌, ◌<◌}
use native.Mathlib.Nat as Nat
use native.Mathlib.Omega.{arith}
use borrow.Author.Tests.{ltb-true, ltb-false}
use lib.Dec.{ltb, eqb}
use lib.ListN.{length, take, drop, length-drop, drop_of_length-le}
use lib.Seq.{take_all, drop-drop}
use Rattle.std.specs.Prelude.{◌==◌, Option, Some, None, position}
use Rattle.std.specs.List.{position_or_len}
use Rattle.std.proofs.lemmas.List.Recursion.{is_position_or_len}
use borrow.Author.Rules.{part_to_end}
use Rattle.page.specs.SheetLine.{before_line, lines, before_field, fields}
use Rattle.lines.specs.Steps.{line_of, index_of, Finds}

-- ---- the place of the first byte c
index_here : (c x : ℕ) (l : List ℕ) → eqb x c ≡ true → index_of c (x ∷ l) ≡ 0
unfolding index_of
index_here c x l e = rw e

index_on : (c x : ℕ) (l : List ℕ) → eqb x c ≡ false → index_of c (x ∷ l) ≡ suc (index_of c l)
unfolding index_of
index_on c x l e = rw e

index_within : (c : ℕ) (l : List ℕ) → index_of c l ≤ length l
unfolding index_of
index_within c [] = omega arith
index_within c (x ∷ l) = by (eqb x c) (index_within c l)
  where
    by : (b : Bool) → index_of c l ≤ length l → cond b 0 (suc (index_of c l)) ≤ length (x ∷ l)
    by true k = omega arith
    by false k = omega arith

-- ---- bytes in parts: c ends one, and any other byte goes before the first
module _ {X : Type 0} (c : ℕ) (parts : List ℕ → List X) (before : ℕ → List X → List X) (whole last : List ℕ → X)
    (law : (x : ℕ) (l : List ℕ) → parts (x ∷ l) ≡ cond (eqb x c) (whole [] ∷ parts l) (before x (parts l)))
    (joins : (x : ℕ) (l : List ℕ) (ps : List X) → before x (whole l ∷ ps) ≡ whole (x ∷ l) ∷ ps)
    (alone : (x : ℕ) → before x (parts []) ≡ last (x ∷ []) ∷ [])
    (after : (x : ℕ) (l : List ℕ) → before x (last l ∷ []) ≡ last (x ∷ l) ∷ []) where
  -- the first part ends before the first c
  cut_off : (l : List ℕ) → index_of c l < length l → parts l ≡ whole (take (index_of c l) l) ∷ parts (drop (index_of c l + 1) l)
  unfolding index_of
  cut_off [] h = absurd (omega arith)
  cut_off (x ∷ l) h = by (eqb x c) refl (cut_off l)
    where
      by : (b : Bool) → eqb x c ≡ b → (index_of c l < length l → parts l ≡ whole (take (index_of c l) l) ∷ parts (drop (index_of c l + 1) l))
          → parts (x ∷ l) ≡ whole (take (index_of c (x ∷ l)) (x ∷ l)) ∷ parts (drop (index_of c (x ∷ l) + 1) (x ∷ l))
      by true e step = let n = index_here c x l e in rw n (law x l ∙ rw e)
      by false e step =
          let n = index_on c x l e in let m : index_of c l < length l = omega (arith, n) in
          rw (n, Nat.suc-add (index_of c l) 1) (law x l ∙ rw (e, step m) (joins x (take (index_of c l) l) (parts (drop (index_of c l + 1) l))))

  -- where there is no c, all of it is the last part
  uncut : (l : List ℕ) (x : ℕ) → length (x ∷ l) ≤ index_of c (x ∷ l) → parts (x ∷ l) ≡ last (x ∷ l) ∷ []
  uncut [] x h = by (eqb x c) refl
    where
      by : (b : Bool) → eqb x c ≡ b → parts (x ∷ []) ≡ last (x ∷ []) ∷ []
      by true e = let n = index_here c x [] e in absurd (omega (arith, n))
      by false e = law x [] ∙ rw e (alone x)
  uncut (y ∷ l) x h = by (eqb x c) refl (uncut l y)
    where
      by : (b : Bool) → eqb x c ≡ b → (length (y ∷ l) ≤ index_of c (y ∷ l) → parts (y ∷ l) ≡ last (y ∷ l) ∷ []) → parts (x ∷ y ∷ l) ≡ last (x ∷ y ∷ l) ∷ []
      by true e step = let n = index_here c x (y ∷ l) e in absurd (omega (arith, n))
      by false e step = let n = index_on c x (y ∷ l) e in let m : length (y ∷ l) ≤ index_of c (y ∷ l) = omega (arith, n) in law x (y ∷ l) ∙ rw (e, step m) (after x (y ∷ l))

-- ---- fields, cut off at tabs
field_cut : (l : List ℕ) → index_of 9 l < length l → fields l ≡ take (index_of 9 l) l ∷ fields (drop (index_of 9 l + 1) l)
unfolding fields
field_cut = cut_off 9 fields before_field (λ f. f) (λ f. f) (λ x l. refl) (λ x l ps. refl) (λ x. refl) (λ x l. refl)

field_last : (l : List ℕ) → length l ≤ index_of 9 l → fields l ≡ l ∷ []
unfolding fields
field_last [] h = refl
field_last (x ∷ l) h = uncut 9 fields before_field (λ f. f) (λ f. f) (λ x l. refl) (λ x l ps. refl) (λ x. refl) (λ x l. refl) l x h

-- there is always one
pub some_field : (l : List ℕ) → 0 < length (fields l)
unfolding fields
some_field [] = omega arith
some_field (x ∷ l) = by (eqb x 9) (fields l)
  where
    by : (b : Bool) (fs : List (List ℕ)) → 0 < length (cond b ([] ∷ fs) (before_field x fs))
    by true fs = omega arith
    by false [] = omega arith
    by false (f ∷ fs) = omega arith

-- ---- lines, cut off at LFs
line_cut : (l : List ℕ) → index_of 10 l < length l → lines l ≡ line_of (take (index_of 10 l) l) true ∷ lines (drop (index_of 10 l + 1) l)
unfolding lines
line_cut = cut_off 10 lines before_line (λ bs. line_of bs true) (λ bs. line_of bs false) (λ x l. refl) (λ x l ps. refl) (λ x. refl) (λ x l. refl)

line_last : (l : List ℕ) → 0 < length l → length l ≤ index_of 10 l → lines l ≡ line_of l false ∷ []
unfolding lines
line_last [] s h = absurd (omega arith)
line_last (x ∷ l) s h = uncut 10 lines before_line (λ bs. line_of bs true) (λ bs. line_of bs false) (λ x l. refl) (λ x l ps. refl) (λ x. refl) (λ x l. refl) l x h

-- ---- the fields of a line after the one that ends at a place
abbrev pub fields_after : List ℕ → ℕ → List (List ℕ)
fields_after line at = cond (ltb at (length line)) (fields (drop (at + 1) line)) []

-- ---- `find`: the place of the first c in what is left, or none
index_is : (c : ℕ) (l : List ℕ) → index_of c l ≡ position_or_len (λ b. b == c) l
unfolding index_of
index_is c l = is_position_or_len (index_of c) (λ b. b == c) refl (λ x xs. ap (cond (eqb x c) 0) (omega arith)) l

module _ (c : ℕ) (l : List ℕ) (from : ℕ) (h : from ≤ length l) {r : Option ℕ} (e : r ≡ position (λ b. b == c) (take (length l - from) (drop from l))) where
  placed : r ≡ cond (ltb (index_of c (drop from l)) (length (drop from l))) (Some (index_of c (drop from l))) None
  placed =
      e ∙ ap (position (λ b. b == c)) (part_to_end l from)
      ∙ ap (λ n. cond (ltb n (length (drop from l))) (Some n) None) (sym (index_is c (drop from l)))

  pub finds_some : {n : ℕ} → r ≡ Some n → Finds c l from (from + n)
  finds_some {n} s = by (ltb (index_of c (drop from l)) (length (drop from l))) refl (sym placed ∙ s)
    where
      by : (b : Bool) → ltb (index_of c (drop from l)) (length (drop from l)) ≡ b → cond b (Some (index_of c (drop from l))) None ≡ Some n → Finds c l from (from + n)
      by true t q =
          let k : index_of c (drop from l) ≡ n = cc in let m = ltb-true (index_of c (drop from l)) (length (drop from l)) t in let d = length-drop from l in
          record { at = omega arith; within = omega arith; after = h }
      by false t q = cc

  pub finds_none : r ≡ None → Finds c l from (length l)
  finds_none s = by (ltb (index_of c (drop from l)) (length (drop from l))) refl (sym placed ∙ s)
    where
      by : (b : Bool) → ltb (index_of c (drop from l)) (length (drop from l)) ≡ b → cond b (Some (index_of c (drop from l))) None ≡ None → Finds c l from (length l)
      by true t q = cc
      by false t q =
          let k = index_within c (drop from l) in let m = ltb-false (index_of c (drop from l)) (length (drop from l)) t in let d = length-drop from l in
          record { at = omega arith; within = omega arith; after = h }

-- ---- what a field and a line are, by where they end
module _ (l : List ℕ) (from end : ℕ) where
  width : (c : ℕ) → Finds c l from end → end - from ≡ index_of c (drop from l)
  width c f = let e = f.at in omega (arith, e)

  beyond : (c : ℕ) → Finds c l from end → drop (index_of c (drop from l) + 1) (drop from l) ≡ drop (end + 1) l
  beyond c f = let e = f.at in let s : from + (index_of c (drop from l) + 1) ≡ end + 1 = omega (arith, e) in drop-drop (index_of c (drop from l) + 1) from l ∙ ap (λ n. drop n l) s

  -- the field from there on, and the fields after it
  pub next_field : Finds 9 l from end → fields (drop from l) ≡ take (end - from) (drop from l) ∷ fields_after l end
  next_field f = by (ltb end (length l)) refl
    where
      by : (b : Bool) → ltb end (length l) ≡ b → fields (drop from l) ≡ take (end - from) (drop from l) ∷ fields_after l end
      by true e =
          let h = ltb-true end (length l) e in let a = f.at in let n = length-drop from l in let m : index_of 9 (drop from l) < length (drop from l) = omega (arith, a, n) in
          rw (e, width 9 f) (field_cut (drop from l) m ∙ ap (λ r. take (index_of 9 (drop from l)) (drop from l) ∷ fields r) (beyond 9 f))
      by false e =
          let h = ltb-false end (length l) e in let a = f.at in let n = length-drop from l in let g = f.after in let m : length (drop from l) ≤ index_of 9 (drop from l) = omega (arith, a, n) in
          rw (e, width 9 f) (field_last (drop from l) m ∙ ap (λ r. r ∷ []) (sym (take_all (index_of 9 (drop from l)) (drop from l) m)))

  -- the line from there on, ended where an LF stands there, and the lines after it
  pub next_line : Finds 10 l from end → from < length l → lines (drop from l) ≡ line_of (take (end - from) (drop from l)) (ltb end (length l)) ∷ lines (drop (end + 1) l)
  unfolding lines
  next_line f s = by (ltb end (length l)) refl
    where
      by : (b : Bool) → ltb end (length l) ≡ b → lines (drop from l) ≡ line_of (take (end - from) (drop from l)) (ltb end (length l)) ∷ lines (drop (end + 1) l)
      by true e =
          let h = ltb-true end (length l) e in let a = f.at in let n = length-drop from l in let m : index_of 10 (drop from l) < length (drop from l) = omega (arith, a, n) in
          rw (e, width 10 f) (line_cut (drop from l) m ∙ ap (λ r. line_of (take (index_of 10 (drop from l)) (drop from l)) true ∷ lines r) (beyond 10 f))
      by false e =
          let h = ltb-false end (length l) e in let a = f.at in let n = length-drop from l in let m : length (drop from l) ≤ index_of 10 (drop from l) = omega (arith, a, n) in
          rw (e, width 10 f, take_all (index_of 10 (drop from l)) (drop from l) m, drop_of_length-le l {i = end + 1} (omega arith)) (line_last (drop from l) (omega arith) m)
