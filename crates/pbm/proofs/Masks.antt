-- Tables written row by row: which entry is whose, a table turned upside down, and the rows of a list that is cut into rows.
use mathlib.Core.Path.{◌≡◌, refl, sym, ◌∙◌, ap, ap₂}
use mathlib.Core.List.{List, [], ◌∷◌, ◌++◌, map, flat_map, map-append}
use Prim.Native.Nat.{ℕ, zero, suc, ◌+◌, ◌*◌, ◌-◌, ◌≤◌, ◌<◌}
use native.Mathlib.Nat as Nat
use native.Mathlib.Numerals.{add-one}
use native.Mathlib.Decide.{dec_lt}
use native.Mathlib.Omega.{arith}
use lib.Arith.{digits_lt}
use lib.ListN.{length, get_or, take, length-map, get_or-append}
use lib.Seq.{take-suc, get_or-append-add}
use Rattle.algebra.specs.Sum.{run, span}
use Rattle.algebra.proofs.Run.{span-++, span_next, span_none, span_member, length_span}
use Rattle.verdicts.proofs.Lists.{map_cong, flat_map_cong}
use Rattle.verdicts.proofs.Bytes.{get_or_map_run}
use Rattle.pbm.specs.Reading.{mask}
use Rattle.pbm.proofs.Lengths.{flat_map_long, below_none, below_next}

module _ {X : Type 0} where
  -- ---- m rows of s columns, f q p in column p of row q
  unfoldable pub table : ℕ → ℕ → (ℕ → ℕ → X) → List X
  table m s f = flat_map (λ q. map (f q) (span 0 s)) (span 0 m)

  module _ (s : ℕ) (f : ℕ → ℕ → X) where
    pub table_none : table 0 s f ≡ []
    unfolding table
    table_none = below_none (λ q. map (f q) (span 0 s))

    pub table_next : (m : ℕ) → table (suc m) s f ≡ table m s f ++ map (f m) (span 0 s)
    unfolding table
    table_next m = below_next (λ q. map (f q) (span 0 s)) m

    pub table_long : (m : ℕ) → length (table m s f) ≡ m * s
    unfolding table
    table_long m =
        flat_map_long (λ q. map (f q) (span 0 s)) s (span 0 m) (λ q i. length-map (span 0 s) (f q) ∙ length_span s)
        ∙ ap (λ n. n * s) (length_span m)

  row_at : (f : ℕ → X) (x : X) (s p : ℕ) → p < s → get_or (map f (span 0 s)) p x ≡ f p
  unfolding span
  row_at f x s p h = get_or_map_run f x 0 (s - 0) p (rw Nat.sub-zero h) ∙ ap f (Nat.zero-add p)

  -- f q p stands at its place
  pub table_at : (f : ℕ → ℕ → X) (x : X) (m s q p : ℕ) → q < m → p < s → get_or (table m s f) (q * s + p) x ≡ f q p
  table_at f x zero s q p h i = absurd (omega arith)
  table_at f x (suc m) s q p h i = ap (λ l. get_or l (q * s + p) x) (table_next s f m) ∙ elim (dec_lt q m) [
    | yes l ↦
        let within : q * s + p < length (table m s f) = rw (table_long s f m) (digits_lt l i) in
        get_or-append (table m s f) (map (f m) (span 0 s)) x (q * s + p) within ∙ table_at f x m s q p l i
    | no l ↦
        let e : q ≡ m = omega arith in
        ap (λ n. get_or (table m s f ++ map (f m) (span 0 s)) (n + p) x) (ap (λ n. n * s) e ∙ sym (table_long s f m))
        ∙ get_or-append-add (table m s f) (map (f m) (span 0 s)) p x ∙ row_at (f m) x s p i ∙ ap (λ n. f n p) (sym e)
  ]

  -- tables that agree within
  pub table_cong : (m s : ℕ) {f g : ℕ → ℕ → X} → ((q p : ℕ) → q < m → p < s → f q p ≡ g q p) → table m s f ≡ table m s g
  unfolding table
  table_cong m s h = flat_map_cong (span 0 m) (λ q i. map_cong (span 0 s) (λ p j. h q p (span_member 0 m i).1 (span_member 0 s j).1))

  -- ---- a list's entries in rows
  run_shifted : (f : ℕ → X) (a b n : ℕ) → map f (run (a + b) n) ≡ map (λ p. f (a + p)) (run b n)
  unfolding run
  run_shifted f a b zero = refl
  run_shifted f a b (suc n) = ap (λ l. f (a + b) ∷ l) (ap (λ c. map f (run c n)) (sym (Nat.add-suc a b)) ∙ run_shifted f a (suc b) n)

  pub span_shifted : (f : ℕ → X) (a n : ℕ) → map f (span a (a + n)) ≡ map (λ p. f (a + p)) (span 0 n)
  unfolding span
  span_shifted f a n =
      let e : a + n - a ≡ n - 0 = omega arith in
      ap (λ m. map f (run a m)) e ∙ ap (λ b. map f (run b (n - 0))) (sym (Nat.add-zero a)) ∙ run_shifted f a 0 (n - 0)

  pub table_flat : (f : ℕ → X) (m s : ℕ) → table m s (λ q p. f (q * s + p)) ≡ map f (span 0 (m * s))
  table_flat f zero s = table_none s (λ q p. f (q * s + p)) ∙ sym (ap (λ n. map f (span 0 n)) (Nat.zero-mul s) ∙ ap (map f) (span_none 0 0 (Nat.le_refl 0)))
  table_flat f (suc m) s =
      table_next s (λ q p. f (q * s + p)) m ∙ ap₂ ◌++◌ (table_flat f m s) (sym (span_shifted f (m * s) s)) ∙ sym (map-append f (span 0 (m * s)) (span (m * s) (m * s + s)))
      ∙ sym (ap (λ n. map f (span 0 n)) (Nat.suc-mul m s) ∙ ap (map f) (span-++ 0 (m * s) (m * s + s) (omega arith) (omega arith)))

-- the first n entries
pub map_first : {X : Type 0} (f : ℕ → X) (xs : List ℕ) (n : ℕ) → n ≤ length xs → map (λ i. f (get_or xs i 0)) (span 0 n) ≡ map f (take n xs)
map_first f xs zero h = ap (map (λ i. f (get_or xs i 0))) (span_none 0 0 (Nat.le_refl 0))
map_first f xs (suc n) h =
    ap (λ m. map (λ i. f (get_or xs i 0)) (span 0 m)) (sym (add-one n)) ∙ ap (map (λ i. f (get_or xs i 0))) (span_next 0 n (omega arith))
    ∙ map-append (λ i. f (get_or xs i 0)) (span 0 n) (n ∷ []) ∙ ap (λ l. l ++ (f (get_or xs n 0) ∷ [])) (map_first f xs n (omega arith))
    ∙ sym (ap (map f) (take-suc xs n 0 h) ∙ map-append f (take n xs) (get_or xs n 0 ∷ []))

-- ---- the mask of a table that is written the top row first is the table
turned_at : (s : ℕ) (f : ℕ → ℕ → ℕ) (n q p : ℕ) → n < s → s - 1 - n ≡ q → p < s → get_or (table s s (λ n p. f (s - 1 - n) p)) (n * s + p) 0 ≡ f q p
turned_at s f n q p h e i = table_at (λ n p. f (s - 1 - n) p) 0 s s n p h i ∙ ap (λ m. f m p) e

pub mask_turned : (s : ℕ) (f : ℕ → ℕ → ℕ) → mask s (table s s (λ n p. f (s - 1 - n) p)) ≡ table s s f
unfolding mask table
mask_turned s f = table_cong s s (λ q p h i. turned_at s f _ q p (omega arith) (omega arith) i)
