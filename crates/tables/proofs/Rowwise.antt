-- To each row of a table s times the next row: what holds where all but the last m + 1 rows are done.
use mathlib.Core.Path.{◌≡◌, refl, ◌∙◌, ap, ap₂}
use mathlib.Core.List.{List}
use Prim.Native.Nat.{ℕ, suc, ◌+◌, ◌-◌, ◌≤◌, ◌<◌}
use native.Mathlib.Nat as Nat
use native.Mathlib.Decide.{dec_le}
use native.Mathlib.Omega.{arith}
use lib.IntN.{ℤ, ◌+ℤ◌, ◌*ℤ◌}
use lib.ListN.{length}
use Rattle.algebra.specs.Triangle.{row_start, place}
use Rattle.algebra.proofs.Places.{row_start_zero, row_start_mono, place_below}
use Rattle.tables.specs.Table.{at, held_from}
use Rattle.tables.specs.Moves.{Addable, Added, RowsAddable, RowsAdded}
use Rattle.tables.proofs.Subtables.{row_start_suc}

-- the row n - m starts at `here`; the rows before it are done but for their last places, and all else is as it was
pub record Rowwise (first n : ℕ) (s : ℤ) (old places : List ℤ) (here m : ℕ) : Type 0 where
  pub within : m ≤ n
  pub start : here ≡ first + row_start n (n - m)
  pub long : length places ≡ length old
  pub added : (a b : ℕ) → a + m < n → a + b < n → held_from places first n a b ≡ held_from old first n a b +ℤ s *ℤ held_from old first n (suc a) b
  pub last : (a b : ℕ) → a + b ≡ n → held_from places first n a b ≡ held_from old first n a b
  pub before : (k : ℕ) → k < first → at places k ≡ at old k
  pub after : (k : ℕ) → here ≤ k → at places k ≡ at old k

module _ {first n : ℕ} {s : ℤ} {old : List ℤ} where
  pub rowwise_start : Rowwise first n s old old first n
  rowwise_start = record {
    within = Nat.le_refl n;
    start = let z = row_start_zero n in let e : row_start n (n - n) ≡ row_start n 0 = ap (row_start n) (omega arith) in omega arith;
    long = refl;
    added = λ a b i j. absurd (omega arith);
    last = λ a b i. refl;
    before = λ k i. refl;
    after = λ k i. refl;
  }

  module _ {places : List ℤ} {here m : ℕ} (o : 0 < m) (p : Rowwise first n s old places here m) where
    -- where the next row and the one after it start
    row : (a : ℕ) → a + m ≡ n → first + row_start n a ≡ here
    row a e = let h = p.start in let r : row_start n a ≡ row_start n (n - m) = ap (row_start n) (omega arith) in omega arith

    next_row : (a : ℕ) → a + m ≡ n → first + row_start n (suc a) ≡ here + m + 1
    next_row a e = let h = row a e in let r = row_start_suc n a in omega arith

    -- what they hold
    held_here : (a c : ℕ) → a + m ≡ n → at places (here + c) ≡ held_from old first n a c
    held_here a c e = let h = row a e in p.after (here + c) (omega arith) ∙ ap (at old) (omega arith)

    held_next : (a c : ℕ) → a + m ≡ n → at places (here + m + 1 + c) ≡ held_from old first n (suc a) c
    held_next a c e = let h = next_row a e in p.after (here + m + 1 + c) (omega arith) ∙ ap (at old) (omega arith)

    pub rowwise_room : RowsAddable first n s old → Addable here (here + m + 1) m s places
    rowwise_room r = record {
      above = omega arith;
      inside = let h = next_row (n - m) (omega arith) in let e = row_start_suc n (suc (n - m)) in let g : row_start n (suc (suc (n - m))) ≤ row_start n (suc n) = row_start_mono n (omega arith) in
          let l = r.inside in let q = p.long in omega arith;
      light = λ c i. rw (held_here (n - m) c (omega arith), held_next (n - m) c (omega arith)) (r.light (n - m) c (omega arith));
    }

    pub rowwise_next : {new : List ℤ} → Added here (here + m + 1) m s places new → Rowwise first n s old new (here + (m + 1)) (m - 1)
    rowwise_next {new} d = record {
      within = omega arith;
      start = let h = next_row (n - m) (omega arith) in let e : row_start n (n - (m - 1)) ≡ row_start n (suc (n - m)) = ap (row_start n) (omega arith) in omega arith;
      long = d.long ∙ p.long;
      added = λ a b i j. elim (dec_le n (a + m)) [
        | yes k ↦
            let e : a + m ≡ n = omega arith in let h = row a e in
            ap (at new) (omega arith) ∙ d.run b (omega arith) ∙ ap₂ (λ x y. x +ℤ s *ℤ y) (held_here a b e) (held_next a b e)
        | no k ↦ d.before (first + place n a b) (below a b (omega arith) (omega arith)) ∙ p.added a b (omega arith) j
      ];
      last = λ a b i. elim (dec_le n (a + m)) [
        | yes k ↦ d.after (first + place n a b) (above a b i k) ∙ p.last a b i
        | no k ↦ d.before (first + place n a b) (below a b (omega arith) (omega arith)) ∙ p.last a b i
      ];
      before = λ k i. d.before k (let h = p.start in omega arith) ∙ p.before k i;
      after = λ k i. d.after k (omega arith) ∙ p.after k (omega arith);
    }
      where
        -- the rows before this one, and the last places of this one and of those after it
        below : (a b : ℕ) → a + b ≤ n → a + m < n → first + place n a b < here
        below a b i k = let h = row (n - m) (omega arith) in let q = place_below n a b i in let g : row_start n (a + 1) ≤ row_start n (n - m) = row_start_mono n (omega arith) in omega arith

        above : (a b : ℕ) → a + b ≡ n → n ≤ a + m → here + m ≤ first + place n a b
        above a b i k = elim (dec_le a (n - m)) [
          | yes l ↦ let h = row a (omega arith) in omega arith
          | no l ↦ let h = next_row (n - m) (omega arith) in let g : row_start n (suc (n - m)) ≤ row_start n a = row_start_mono n (omega arith) in omega arith
        ]

  pub rowwise_end : {places : List ℤ} {here m : ℕ} → m ≤ 0 → Rowwise first n s old places here m → RowsAdded first n s old places
  rowwise_end {places} {here} {m} z p = record {
    long = p.long;
    added = λ a b i. p.added a b (omega arith) i;
    last = p.last;
    before = p.before;
    after = λ k i. p.after k (let h = p.start in let g : row_start n (n - m) ≤ row_start n (suc n) = row_start_mono n (omega arith) in omega arith);
  }
