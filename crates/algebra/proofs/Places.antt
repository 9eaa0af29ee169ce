-- Where the terms of a triangle stand when it is written out row by row: row by row from 0 on, no two at one place, and how many places there are.
use mathlib.Core.Path.{◌≡◌, sym, ◌∙◌, ap}
use Prim.Native.Nat.{ℕ, zero, suc, ◌+◌, ◌*◌, ◌-◌, ◌/◌, ◌≤◌, ◌<◌}
use native.Mathlib.Nat as Nat
use native.Mathlib.Numerals.{add-one}
use native.Mathlib.Decide.{dec_lt}
use native.Mathlib.Omega.{arith}
use Rattle.algebra.specs.Sum.{span}
use Rattle.algebra.specs.Triangle.{row_start, place}
use Rattle.algebra.proofs.Sum.{sumℕ_mono}
use Rattle.algebra.proofs.Run.{sumℕ_span_none, sumℕ_span_next, sumℕ_span_part}

-- ---- the rows: the first starts at 0, and the row i has d + 1 - i places
pub row_start_zero : (d : ℕ) → row_start d 0 ≡ 0
unfolding row_start
row_start_zero d = sumℕ_span_none 0 0 _ (Nat.le_refl 0)

pub row_start_next : (d i : ℕ) → row_start d (i + 1) ≡ row_start d i + suc (d - i)
unfolding row_start
row_start_next d i = sumℕ_span_next 0 i _ (omega arith)

-- a later row starts no earlier
pub row_start_mono : (d : ℕ) {i k : ℕ} → i ≤ k → row_start d i ≤ row_start d k
unfolding row_start
row_start_mono d h = sumℕ_span_part 0 _ _ h

-- ---- the place of (i,j) lies in the row i, and so below the end of the last row
pub place_below : (d i j : ℕ) → i + j ≤ d → place d i j < row_start d (i + 1)
place_below d i j h = let n = row_start_next d i in omega arith

pub place_all : (d i j : ℕ) → i + j ≤ d → place d i j < row_start d (suc d)
place_all d i j h = let p = place_below d i j h in let m : row_start d (i + 1) ≤ row_start d (suc d) = row_start_mono d (omega arith) in omega arith

-- no two stand at one place
before : (d i j k l : ℕ) → i + j ≤ d → i < k → place d i j < place d k l
before d i j k l h n = let p = place_below d i j h in let m : row_start d (i + 1) ≤ row_start d k = row_start_mono d (omega arith) in omega arith

pub place_inj : (d i j k l : ℕ) → i + j ≤ d → k + l ≤ d → place d i j ≡ place d k l → (i ≡ k) × (j ≡ l)
place_inj d i j k l h g e = elim (dec_lt i k) [
  | yes n ↦ let b = before d i j k l h n in absurd (omega arith)
  | no n ↦ elim (dec_lt k i) [
    | yes m ↦ let b = before d k l i j g m in absurd (omega arith)
    | no m ↦ let s : i ≡ k = omega arith in let t : row_start d i ≡ row_start d k = ap (row_start d) s in (s, omega arith)
  ]
]

-- ---- how many places there are: (d + 1) (d + 2) / 2
-- m rows are left after i rows
rows_left : (d i m : ℕ) → i + m ≡ suc d → 2 * row_start d i + m * suc m ≡ (d + 1) * (d + 2)
rows_left d zero m e = let z = row_start_zero d in let n : m ≡ suc d = omega arith in rw n (omega arith)
rows_left d (suc i) m e =
    let p = rows_left d i (suc m) (omega arith) in
    let n : row_start d (suc i) ≡ row_start d i + suc m = sym (ap (row_start d) (add-one i)) ∙ row_start_next d i ∙ ap (λ x. row_start d i + suc x) (omega arith) in
    omega arith

pub row_start_all : (d : ℕ) → row_start d (suc d) ≡ (d + 1) * (d + 2) / 2
row_start_all d = let p = rows_left d (suc d) 0 (Nat.add-zero (suc d)) in sym (Nat.div-eq_of_eq-mul_right (omega arith) (omega arith))

-- a higher degree has more, and degree 8 has 45
pub row_start_degree : {d e : ℕ} → d ≤ e → row_start d (suc d) ≤ row_start e (suc e)
unfolding row_start
row_start_degree {d} {e} h = Nat.le_trans (sumℕ_mono (span 0 (suc d)) (λ r m. omega arith)) (sumℕ_span_part 0 (suc d) (λ r. suc (e - r)) (omega arith))

pub places_45 : (d : ℕ) → d ≤ 8 → row_start d (suc d) ≤ 45
places_45 d h = let m = row_start_degree h in let e = row_start_all 8 in omega arith
