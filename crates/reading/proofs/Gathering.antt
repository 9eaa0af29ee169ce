-- A table's coefficients put into a list, place by place and row by row.
use mathlib.Core.Path.{◌≡◌, refl, sym, ◌∙◌, ap}
use mathlib.Core.List.{List, [], ◌∷◌, ◌++◌, map, map-append}
use Prim.Native.Nat.{ℕ, zero, suc, ◌+◌, ◌-◌, ◌≤◌, ◌<◌}
use native.Mathlib.Nat as Nat
use native.Mathlib.Omega.{arith}
use lib.IntN.{ℤ, pos}
use lib.ListN.{length, get_or, set, drop, replicate, length-map, length-append, length-replicate}
use lib.Seq.{sets, sets-eq, take_at, drop-append-add}
use Rattle.algebra.specs.Sum.{span, run, ◌⋯◌}
use Rattle.algebra.specs.Triangle.{row_start}
use Rattle.algebra.proofs.Run.{span_next, length_run}
use Rattle.algebra.proofs.Places.{row_start_zero, row_start_next, row_start_mono, row_start_all, places_45}
use Rattle.page.proofs.Order.{row_of, row_long, rows_before, rows_none, rows_next, rows_all, rows_long}
use Rattle.page.specs.SheetText.{in_order}
use Rattle.reading.specs.Steps.{place_of, table_at, gathered_from}

-- ---- one more store after a run of stores
sets_one : (l : List ℤ) (i : ℕ) (vs : List ℤ) (a : ℤ) → sets l i (vs ++ (a ∷ [])) ≡ set (sets l i vs) (i + length vs) a
sets_one l i [] a = ap (λ n. set l n a) (sym (Nat.add-zero i))
sets_one l i (v ∷ vs) a = sets_one (set l i v) (suc i) vs a ∙ ap (λ n. set (sets (set l i v) (suc i) vs) n a) (omega arith)

span_long : (n : ℕ) → length (span 0 n) ≡ n
unfolding span
span_long n = length_run 0 (n - 0) ∙ Nat.sub-zero n

-- ---- one row: the places before j are put
pub record Putting (values : List ℤ) (i n at : ℕ) (old new : List ℤ) (j : ℕ) : Type 0 where
  pub within : j ≤ n + 1
  pub put : new ≡ sets old at (map (table_at values i) (span 0 j))

module _ {values : List ℤ} {i n at : ℕ} {old : List ℤ} where
  pub putting_start : Putting values i n at old old 0
  unfolding span run
  putting_start = record { within = omega arith; put = refl }

  -- one place more, from its own entry of the table
  pub putting_next : {new : List ℤ} {j from : ℕ} {z : ℤ} → j ≤ n → z ≡ get_or values from (pos 0) → from ≡ place_of i j → Putting values i n at old new j → Putting values i n at old (set new (at + j) z) (j + 1)
  putting_next {new} {j} {from} {z} h e q p =
      let f : ℕ → ℤ = table_at values i in let l : length (map f (span 0 j)) ≡ j = length-map (span 0 j) f ∙ span_long j in
      record {
        within = omega arith;
        put = ap (λ y. set new (at + j) y) (e ∙ ap (λ m. get_or values m (pos 0)) q) ∙ ap (λ y. set y (at + j) (f j)) p.put ∙ ap (λ m. set (sets old at (map f (span 0 j))) (at + m) (f j)) (sym l)
            ∙ sym (ap (λ m. sets old at (map f m)) (span_next 0 j (omega arith)) ∙ ap (sets old at) (map-append f (span 0 j) (j ∷ [])) ∙ sets_one old at (map f (span 0 j)) (f j));
      }

  -- past the last place the row is put
  pub putting_end : {new : List ℤ} {j : ℕ} → n < j → Putting values i n at old new j → new ≡ sets old at (map (table_at values i) (0 ⋯ n))
  unfolding ◌⋯◌
  putting_end {new} {j} h p = p.put ∙ ap (λ m. sets old at (map (table_at values i) (span 0 m))) (omega arith)

-- ---- a row stored into zeros, after what stands before them
drop_zeros : (m n : ℕ) → drop m (replicate n (pos 0)) ≡ replicate (n - m) (pos 0)
drop_zeros zero n = ap (λ k. replicate k (pos 0)) (sym (Nat.sub-zero n))
drop_zeros (suc m) zero = ap (λ k. replicate k (pos 0)) (sym (Nat.zero-sub (suc m)))
drop_zeros (suc m) (suc n) = drop_zeros m n ∙ ap (λ k. replicate k (pos 0)) (sym (Nat.suc-sub-suc n m))

sets_zeros : (xs row : List ℤ) (at n : ℕ) → length xs ≡ at → length row ≤ n → sets (xs ++ replicate n (pos 0)) at row ≡ xs ++ row ++ replicate (n - length row) (pos 0)
sets_zeros xs row at n e h =
    let zs : List ℤ = replicate n (pos 0) in let l = length-append xs zs in let m = length-replicate n (pos 0) in
    sets-eq row (xs ++ zs) at (omega arith) ∙ ap (λ a. a ++ row ++ drop (at + length row) (xs ++ zs)) (take_at xs zs at e)
    ∙ ap (λ k. xs ++ row ++ drop (k + length row) (xs ++ zs)) (sym e) ∙ ap (λ r. xs ++ row ++ r) (drop-append-add xs zs (length row) ∙ drop_zeros (length row) n)

-- ---- all rows: those before i are gathered, and zeros stand after them
pub record Gathering (d : ℕ) (values coefficients : List ℤ) (at i : ℕ) : Type 0 where
  pub within : i ≤ d + 1
  pub here : at ≡ row_start d i
  pub rows : coefficients ≡ rows_before d (table_at values) i ++ replicate (45 - at) (pos 0)

module _ {d : ℕ} {values : List ℤ} where
  -- at first all are zeros
  pub gathering_start : Gathering d values (replicate 45 (pos 0)) 0 0
  gathering_start = record { within = omega arith; here = sym (row_start_zero d); rows = ap (λ l. l ++ replicate 45 (pos 0)) (sym (rows_none d (table_at values))) }

  -- the next row has its place among the 45
  pub gathering_room : {coefficients : List ℤ} {at i : ℕ} → d ≤ 8 → i ≤ d → Gathering d values coefficients at i → (length coefficients ≡ 45) × (at + (d - i) < 45)
  gathering_room {coefficients} {at} {i} s h g =
      let n = row_start_next d i in let m : row_start d (i + 1) ≤ row_start d (suc d) = row_start_mono d (omega arith) in let p = places_45 d s in
      let l = length-append (rows_before d (table_at values) i) (replicate (45 - at) (pos 0)) in let r = rows_long d (table_at values) i in let z = length-replicate (45 - at) (pos 0) in
      let e = ap length g.rows in
      (omega arith, omega arith)

  -- one row more
  pub gathering_next : {old new : List ℤ} {at i : ℕ} → d ≤ 8 → i ≤ d → new ≡ sets old at (row_of d (table_at values) i) → Gathering d values old at i → Gathering d values new (at + (d - i + 1)) (i + 1)
  gathering_next {old} {new} {at} {i} s h e g =
      let A : ℕ → ℕ → ℤ = table_at values in let n = row_start_next d i in let (l, k) = gathering_room s h g in let r = row_long (A i) (d - i) in
      let w : 45 - at - length (row_of d A i) ≡ 45 - (at + (d - i + 1)) = omega arith in
      record {
        within = omega arith;
        here = omega arith;
        rows = e ∙ ap (λ x. sets x at (row_of d A i)) g.rows ∙ sets_zeros (rows_before d A i) (row_of d A i) at (45 - at) (rows_long d A i ∙ sym g.here) (omega arith)
            ∙ ap (λ x. x ++ replicate (45 - at - length (row_of d A i)) (pos 0)) (sym (rows_next d A i)) ∙ ap (λ x. rows_before d A (i + 1) ++ replicate x (pos 0)) w;
      }

  -- past the last row all are gathered
  pub gathering_end : {coefficients : List ℤ} {at i : ℕ} → d < i → Gathering d values coefficients at i → coefficients ≡ gathered_from d values
  gathering_end {coefficients} {at} {i} h g =
      let A : ℕ → ℕ → ℤ = table_at values in let e : i ≡ suc d = omega arith in
      g.rows ∙ ap (λ x. rows_before d A x ++ replicate (45 - at) (pos 0)) e ∙ ap (λ x. x ++ replicate (45 - at) (pos 0)) (rows_all d A)
      ∙ ap (λ x. in_order d A ++ replicate (45 - x) (pos 0)) (g.here ∙ ap (row_start d) e ∙ row_start_all d)
