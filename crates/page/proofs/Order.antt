-- The coefficients of a text in the page's order: row by row, how many they are, and that they are those of i + j at most d.
use mathlib.Core.Path.{◌≡◌, refl, sym, ◌∙◌, ap}
use mathlib.Core.List.{List, [], ◌∷◌, ◌++◌, map, flat_map, append-nil}
use Prim.Native.Nat.{ℕ, zero, suc, ◌+◌, ◌-◌, ◌≤◌, ◌<◌}
use native.Mathlib.Nat as Nat
use native.Mathlib.Numerals.{add-one}
use native.Mathlib.Omega.{arith}
use lib.IntN.{ℤ, pos}
use lib.ListN.{length, take, get_or, length-append, length-map, get_or-append}
use lib.Seq.{take_at, get_or-append-add}
use Rattle.algebra.specs.Sum.{span, ◌⋯◌}
use Rattle.algebra.specs.Triangle.{row_start}
use Rattle.algebra.proofs.Run.{⋯-run, ⋯_member, length_run, span_none, span_next, span_first, span-++}
use Rattle.algebra.proofs.Places.{row_start_zero, row_start_next, row_start_all}
use Rattle.verdicts.proofs.Lists.{map_cong, flat_map-++, flat_map_cong}
use Rattle.verdicts.proofs.Bytes.{get_or_map_run}
use Rattle.page.specs.Sheet.{count}
use Rattle.page.specs.SheetText.{in_order}
use Rattle.page.specs.ReadFacts.{InOrderAt}

-- ---- one row, A(i,0) to A(i,d-i), and how many it has
abbrev pub row_of : ℕ → (ℕ → ℕ → ℤ) → ℕ → List ℤ
row_of d A i = map (A i) (0 ⋯ (d - i))

pub row_long : (f : ℕ → ℤ) (n : ℕ) → length (map f (0 ⋯ n)) ≡ suc n
row_long f n = length-map (0 ⋯ n) f ∙ ap length (⋯-run n) ∙ length_run 0 (suc n)

-- ---- the rows before i
unfoldable pub rows_before : ℕ → (ℕ → ℕ → ℤ) → ℕ → List ℤ
rows_before d A i = flat_map (row_of d A) (span 0 i)

module _ (d : ℕ) (A : ℕ → ℕ → ℤ) where
  pub rows_none : rows_before d A 0 ≡ []
  unfolding rows_before flat_map
  rows_none = ap (flat_map (row_of d A)) (span_none 0 0 (Nat.le_refl 0))

  pub rows_next : (i : ℕ) → rows_before d A (i + 1) ≡ rows_before d A i ++ row_of d A i
  unfolding rows_before flat_map
  rows_next i =
      ap (flat_map (row_of d A)) (span_next 0 i (omega arith)) ∙ flat_map-++ (row_of d A) (span 0 i) (i ∷ [])
      ∙ ap (λ l. flat_map (row_of d A) (span 0 i) ++ l) (append-nil (row_of d A i))

  -- past the last row they are all
  pub rows_all : rows_before d A (suc d) ≡ in_order d A
  unfolding rows_before in_order ◌⋯◌
  rows_all = refl

  pub rows_long : (i : ℕ) → length (rows_before d A i) ≡ row_start d i
  rows_long zero = ap length rows_none ∙ sym (row_start_zero d)
  rows_long (suc i) =
      ap (λ n. length (rows_before d A n)) (sym (add-one i)) ∙ ap length (rows_next i) ∙ length-append (rows_before d A i) (row_of d A i)
      ∙ ap (λ n. n + length (row_of d A i)) (rows_long i) ∙ ap (λ n. row_start d i + n) (row_long (A i) (d - i)) ∙ sym (row_start_next d i) ∙ ap (row_start d) (add-one i)

  -- as many as the page counts
  pub order_long : length (in_order d A) ≡ count d
  order_long = ap length (sym rows_all) ∙ rows_long (suc d) ∙ row_start_all d

-- ---- tables that agree where i + j is at most d
pub order_cong : (d : ℕ) {A B : ℕ → ℕ → ℤ} → ((i j : ℕ) → i + j ≤ d → A i j ≡ B i j) → in_order d A ≡ in_order d B
unfolding in_order
order_cong d h = flat_map_cong (0 ⋯ d) (λ i m. map_cong (0 ⋯ (d - i)) (λ j l. let x = ⋯_member 0 d m in let y = ⋯_member 0 (d - i) l in h i j (omega arith)))

-- ---- the coefficients before any others
pub order_first : (d : ℕ) (A : ℕ → ℕ → ℤ) (rest : List ℤ) → take (count d) (in_order d A ++ rest) ≡ in_order d A
order_first d A rest = take_at (in_order d A) rest (count d) (order_long d A)

-- ---- A(i,j) stands at its place: in the row i, after the rows before it
row_at : (f : ℕ → ℤ) (n j : ℕ) → j ≤ n → get_or (map f (0 ⋯ n)) j (pos 0) ≡ f j
row_at f n j h = ap (λ l. get_or (map f l) j (pos 0)) (⋯-run n) ∙ get_or_map_run f (pos 0) 0 (suc n) j (omega arith) ∙ ap f (Nat.zero-add j)

-- the rows before i, the row i, and the rest
row_parts : (d : ℕ) (A : ℕ → ℕ → ℤ) (i : ℕ) → i ≤ d → in_order d A ≡ rows_before d A i ++ (row_of d A i ++ flat_map (row_of d A) (span (suc i) (suc d)))
unfolding in_order rows_before ◌⋯◌ flat_map
row_parts d A i h =
    ap (flat_map (row_of d A)) (span-++ 0 i (suc d) (omega arith) (omega arith) ∙ ap (λ l. span 0 i ++ l) (span_first i (suc d) (omega arith)))
    ∙ flat_map-++ (row_of d A) (span 0 i) (i ∷ span (suc i) (suc d))

pub in_order_at : InOrderAt
in_order_at d A i j h =
    let l : j < length (row_of d A i) = omega (arith, row_long (A i) (d - i)) in
    rw (row_parts d A i (omega arith), ← rows_long d A i) (get_or-append-add (rows_before d A i) _ j (pos 0) ∙ get_or-append (row_of d A i) _ (pos 0) j l ∙ row_at (A i) (d - i) j (omega arith))
