-- The columns of a table of degree d moved by Horner's rule: what holds where it has come down to the row d - n, each column by itself.
use mathlib.Core.Path.{◌≡◌, refl, sym, ◌∙◌, ap}
use mathlib.Core.List.{List, [], ◌∷◌}
use Prim.Native.Nat.{ℕ, zero, suc, ◌+◌, ◌*◌, ◌-◌, ◌/◌, ◌^◌, ◌≤◌, ◌<◌}
use native.Mathlib.Nat as Nat
use native.Mathlib.Decide.{dec_le}
use native.Mathlib.Omega.{arith}
use lib.IntN.{ℤ, pos, ◌+ℤ◌, ◌*ℤ◌, nat_abs}
use lib.ListN.{length}
use Rattle.algebra.specs.Triangle.{row_start, place}
use Rattle.algebra.specs.Horner.{shifted, load}
use Rattle.algebra.proofs.Ring.{ring, ◌⊕◌, ◌⊗◌, #◌, ◌≐◌}
use Rattle.algebra.proofs.Places.{row_start_zero, row_start_all}
use Rattle.algebra.proofs.Horner.{shifted_none, shifted_zero, shifted_suc, shifted_over, shifted_all, shifted_size, load_next, load_whole}
use Rattle.forms.specs.Plane.{across}
use Rattle.tables.specs.Table.{at, held_from}
use Rattle.tables.specs.Moves.{RowsAddable, RowsAdded, ColumnsMovable, ColumnsMoved}
use Rattle.tables.proofs.Subtables.{row_start_suc, row_start_under}

-- the column b, and what Horner's rule holds of it when it has come down to j
abbrev pub column : List ℤ → ℕ → ℕ → ℕ → ℕ → ℤ
column old start d b i = held_from old start d i b

abbrev pub come : List ℤ → ℕ → ℕ → ℤ → ℕ → ℕ → ℕ → ℤ
come old start d s b j a = shifted (column old start d b) s (pos 1) (d - b) j a

-- where the row before the last n rows starts
abbrev pub lower : ℕ → ℕ → ℕ
lower first n = first - (n + 1)

-- the last n + 1 rows are a table of degree n from `first` on
pub record Shifting (start d : ℕ) (s : ℤ) (old places : List ℤ) (first n : ℕ) : Type 0 where
  pub within : n ≤ d
  pub here : first ≡ start + row_start d (d - n)
  pub long : length places ≡ length old
  pub each : (a b : ℕ) → a + b ≤ n → held_from places first n a b ≡ come old start d s b (d - n) a
  pub before : (k : ℕ) → k < first → at places k ≡ at old k
  pub after : (k : ℕ) → start + row_start d (suc d) ≤ k → at places k ≡ at old k

-- the top of a column is as it was
top : (c : ℕ → ℤ) (s : ℤ) (m : ℕ) → shifted c s (pos 1) m m 0 ≡ c m
top c s m =
    shifted_zero c s (pos 1) m m (Nat.le_refl m) ∙ ap (λ x. x *ℤ s +ℤ c m *ℤ pos 1) (shifted_none c s (pos 1) m (suc m) 0 (omega arith))
    ∙ ring (s ∷ c m ∷ []) (λ s c. # 0 ⊗ s ⊕ c ⊗ # 1 ≐ c) tt

-- where the last row starts
last_start : (start d : ℕ) → start + (d + 1) * (d + 2) / 2 - 1 ≡ start + row_start d (d - 0)
last_start start d = let r = row_start_all d in let q = row_start_suc d d in let e : row_start d (d - 0) ≡ row_start d d = ap (row_start d) (omega arith) in omega arith

-- x + s y has room where both are at most l, but for c at x
room : (x y s l c n : ℕ) → x ≤ l + c → y ≤ l → l * (s + 1) + c < n → x + s * y < n
room x y s l c n p q r = let m = Nat.mul-le-mul_left s q in let e = Nat.mul_comm s l in omega arith

module _ {start d : ℕ} {s : ℤ} {old : List ℤ} where
  -- at first: the last place alone
  pub shifting_start : Shifting start d s old old (start + (d + 1) * (d + 2) / 2 - 1) 0
  shifting_start = record {
    within = omega arith;
    here = last_start start d;
    long = refl;
    each = λ a b i.
        let p : a ≡ 0 = omega arith in let q : b ≡ 0 = omega arith in let h = last_start start d in let z = row_start_zero 0 in
        rw (p, q) (ap (at old) (omega arith) ∙ sym (top (column old start d 0) s (d - 0)));
    before = λ k i. refl;
    after = λ k i. refl;
  }

  -- one row up, before its step: n rows come after it, and j is its number
  module _ {places : List ℤ} {first m n : ℕ} (p : Shifting start d s old places first m) (k : n ≡ suc m) (j : ℕ) (e : j + n ≡ d) where
    -- where it starts, and that the table from there on ends where the whole one does
    lower_start : first ≡ start + row_start d j + (n + 1)
    lower_start = let h = p.here in let g : row_start d (d - m) ≡ row_start d (suc j) = ap (row_start d) (omega arith) in let q = row_start_suc d j in omega arith

    lower_end : lower first n + row_start n (suc n) ≡ start + row_start d (suc d)
    lower_end =
        let h = lower_start in let q = row_start_under d j (suc n) in let f : row_start d (j + suc n) ≡ row_start d (suc d) = ap (row_start d) (omega arith) in
        let g : row_start (d - j) (suc n) ≡ row_start n (suc n) = ap (λ m. row_start m (suc n)) (omega arith) in omega arith

    -- what it holds is old, and the rows after it are the table of degree m
    first_row : (b : ℕ) → b ≤ n → held_from places (lower first n) n 0 b ≡ held_from old start d j b
    first_row b i = let h = lower_start in let z = row_start_zero n in p.before (lower first n + place n 0 b) (omega arith) ∙ ap (at old) (omega arith)

    other_rows : (a b : ℕ) → a + b < n → held_from places (lower first n) n (suc a) b ≡ come old start d s b (suc j) a
    other_rows a b i =
        let h = lower_start in let z = row_start_zero n in let u = row_start_suc n 0 in let q = row_start_under n 1 a in
        let f : row_start n (suc a) ≡ row_start n (1 + a) = ap (row_start n) (omega arith) in
        let g : row_start (n - 1) a ≡ row_start m a = ap (λ m. row_start m a) (omega arith) in
        ap (at places) (omega arith) ∙ p.each a b (omega arith) ∙ ap (λ i. come old start d s b i a) (omega arith)

    -- the sizes
    come_size : (a b : ℕ) → nat_abs (come old start d s b (suc j) a) ≤ load (column old start d b) (nat_abs s + 1) (d - b) (suc j)
    come_size a b = shifted_size (column old start d b) s (pos 1) (d - b) (suc j) a

    size : (a b : ℕ) → a + b < n → nat_abs (held_from places (lower first n) n a b) ≤ load (column old start d b) (nat_abs s + 1) (d - b) (suc j) + nat_abs (held_from old start d j b)
    size zero b i = rw (first_row b (omega arith)) (omega arith)
    size (suc a) b i = rw (other_rows a b (omega arith)) (let m = come_size a b in omega arith)

    roomy : ColumnsMovable start d s old → RowsAddable (lower first n) n s places
    roomy r = record {
      inside = let q = lower_end in let l = r.inside in let m = p.long in omega arith;
      light = λ a b i.
          let c = column old start d b in let m = nat_abs s + 1 in
          let w = load_whole c m (d - b) j (Nat.le_refl m) (omega arith) in let l = r.light b (omega arith) in let q = load_next c m (d - b) j (omega arith) in
          room (nat_abs (held_from places (lower first n) n a b)) (nat_abs (held_from places (lower first n) n (suc a) b)) (nat_abs s) (load c m (d - b) (suc j)) (nat_abs (c j)) (2 ^ 63)
          (size a b (omega arith)) (rw (other_rows a b (omega arith)) (come_size a b)) (omega arith);
    }

    -- the step: what is added is zero at the last place of each row
    gained : {new : List ℤ} → RowsAdded (lower first n) n s places new → (a b : ℕ) → a + b ≤ n
        → held_from new (lower first n) n a b ≡ held_from places (lower first n) n a b +ℤ s *ℤ come old start d s b (suc j) a
    gained r a b i =
        let x = held_from places (lower first n) n a b in
        elim (dec_le n (a + b)) [
          | yes k ↦ r.last a b (omega arith) ∙ ring (x ∷ s ∷ []) (λ x s. x ≐ x ⊕ s ⊗ # 0) tt
              ∙ sym (ap (λ y. x +ℤ s *ℤ y) (shifted_over (column old start d b) s (pos 1) (d - b) (suc j) a (omega arith)))
          | no k ↦ r.added a b (omega arith) ∙ ap (λ y. x +ℤ s *ℤ y) (other_rows a b (omega arith))
        ]

    exchanged : (x y : ℤ) → x +ℤ s *ℤ y ≡ y *ℤ s +ℤ x *ℤ pos 1
    exchanged x y = ring (x ∷ s ∷ y ∷ []) (λ x s y. x ⊕ s ⊗ y ≐ y ⊗ s ⊕ x ⊗ # 1) tt

    step : {new : List ℤ} → RowsAdded (lower first n) n s places new → (a b : ℕ) → a + b ≤ n → held_from new (lower first n) n a b ≡ come old start d s b j a
    step r zero b i =
        gained r 0 b i ∙ ap (λ x. x +ℤ s *ℤ come old start d s b (suc j) 0) (first_row b (omega arith)) ∙ exchanged (held_from old start d j b) (come old start d s b (suc j) 0)
        ∙ sym (shifted_zero (column old start d b) s (pos 1) (d - b) j (omega arith))
    step r (suc a) b i =
        gained r (suc a) b i ∙ ap (λ x. x +ℤ s *ℤ come old start d s b (suc j) (suc a)) (other_rows a b (omega arith)) ∙ exchanged (come old start d s b (suc j) a) (come old start d s b (suc j) (suc a))
        ∙ sym (shifted_suc (column old start d b) s (pos 1) (d - b) j a (omega arith))

  -- the step to the last n + 1 rows
  module _ {places : List ℤ} {first n : ℕ} (o : 1 ≤ n) (l : n ≤ d) (p : Shifting start d s old places first (n - 1)) where
    pub shifting_lower : n + 1 ≤ first
    shifting_lower = let k : n ≡ suc (n - 1) = omega arith in let e : d - n + n ≡ d = omega arith in let h = lower_start p k (d - n) e in omega arith

    pub shifting_room : ColumnsMovable start d s old → RowsAddable (lower first n) n s places
    shifting_room r = roomy p (omega arith) (d - n) (omega arith) r

    pub shifting_next : {new : List ℤ} → RowsAdded (lower first n) n s places new → Shifting start d s old new (lower first n) n
    shifting_next {new} r =
        let k : n ≡ suc (n - 1) = omega arith in let e : d - n + n ≡ d = omega arith in let h = lower_start p k (d - n) e in let q = lower_end p k (d - n) e in
        record {
          within = l;
          here = omega arith;
          long = r.long ∙ p.long;
          each = step p k (d - n) e r;
          before = λ k i. r.before k i ∙ p.before k (omega arith);
          after = λ k i. r.after k (omega arith) ∙ p.after k i;
        }

  pub shifting_end : {places : List ℤ} {first n : ℕ} → d ≤ n → Shifting start d s old places first n → ColumnsMoved start d s old places
  unfolding across
  shifting_end {places} {first} {n} z p =
      let h = p.here in let e : d ≡ n = let w = p.within in omega arith in let q : row_start d (d - n) ≡ row_start d 0 = ap (row_start d) (omega arith) in let r = row_start_zero d in
      record {
        long = p.long;
        each = λ a b i.
            let g : row_start d a ≡ row_start n a = ap (λ m. row_start m a) e in
            ap (at places) (omega arith) ∙ p.each a b (omega arith) ∙ ap (λ i. come old start d s b i a) (omega arith) ∙ shifted_all (column old start d b) s (pos 1) (d - b) a;
        before = λ k i. p.before k (omega arith);
        after = p.after;
      }
