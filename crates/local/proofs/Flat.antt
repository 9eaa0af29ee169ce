-- The sum over a triangle: place by place as it is written out row by row, and with the places (0,0), (0,1) and (1,0) apart.
use mathlib.Core.Path.{◌≡◌, sym, ◌∙◌, ap, ap₂}
use Prim.Native.Nat.{ℕ, zero, suc, ◌+◌, ◌*◌, ◌-◌, ◌/◌, ◌≤◌}
use native.Mathlib.Nat as Nat
use native.Mathlib.Numerals.{add-one}
use native.Mathlib.Omega.{arith}
use Rattle.algebra.specs.Sum.{sumℕ, span, ◌⋯◌}
use Rattle.algebra.specs.Triangle.{triangle, row_start, place}
use Rattle.algebra.proofs.Sum.{sumℕ-++, sumℕ_mono}
use Rattle.algebra.proofs.Run.{span-++, span_member, sumℕ_span_none, sumℕ_span_next, sumℕ_span_first}
use Rattle.algebra.proofs.Places.{row_start_zero, row_start_next, row_start_all}

-- ---- place by place
-- n numbers from s on
from : (s n : ℕ) (f : ℕ → ℕ) → sumℕ (span s (s + n)) f ≡ sumℕ (span 0 n) (λ b. f (s + b))
from s zero f = sumℕ_span_none s (s + 0) f (omega arith) ∙ sym (sumℕ_span_none 0 0 (λ b. f (s + b)) (Nat.le_refl 0))
from s (suc n) f =
    let a = sumℕ_span_next s (s + n) f (omega arith) in let b = sumℕ_span_next 0 n (λ b. f (s + b)) (omega arith) in let i = from s n f in
    ap (λ m. sumℕ (span s m) f) (let e : s + suc n ≡ s + n + 1 = omega arith in e)
    ∙ (let e : sumℕ (span s (s + n + 1)) f ≡ sumℕ (span 0 (n + 1)) (λ b. f (s + b)) = omega arith in e)
    ∙ ap (λ m. sumℕ (span 0 m) (λ b. f (s + b))) (add-one n)

module _ (d : ℕ) (f : ℕ → ℕ) where
  abbrev row : ℕ → ℕ
  row a = sumℕ (0 ⋯ (d - a)) (λ b. f (place d a b))

  -- the first i rows
  rows : (i : ℕ) → sumℕ (span 0 (row_start d i)) f ≡ sumℕ (span 0 i) row
  unfolding ◌⋯◌
  rows zero = sumℕ_span_none 0 (row_start d 0) f (Nat.le_of_eq (row_start_zero d)) ∙ sym (sumℕ_span_none 0 0 row (Nat.le_refl 0))
  rows (suc i) =
      let s = row_start d i in
      ap (λ m. sumℕ (span 0 m) f) (sym (ap (row_start d) (add-one i)) ∙ row_start_next d i)
      ∙ ap (λ l. sumℕ l f) (span-++ 0 s (s + suc (d - i)) (omega arith) (omega arith)) ∙ sumℕ-++ (span 0 s) (span s (s + suc (d - i))) f
      ∙ ap₂ ◌+◌ (rows i) (from s (suc (d - i)) f) ∙ sym (sumℕ_span_next 0 i row (omega arith)) ∙ ap (λ m. sumℕ (span 0 m) row) (add-one i)

  pub flat : sumℕ (span 0 ((d + 1) * (d + 2) / 2)) f ≡ triangle d (λ a b. f (place d a b))
  unfolding ◌⋯◌
  flat = ap (λ m. sumℕ (span 0 m) f) (sym (row_start_all d)) ∙ rows (suc d)

-- ---- three places apart
-- the others: of the row 0, of the row 1, and the rows from 2 on
abbrev rest : ℕ → (ℕ → ℕ → ℕ) → ℕ
rest d f = sumℕ (span 2 (suc (d - 0))) (f 0) + sumℕ (span 1 (suc (d - 1))) (f 1) + sumℕ (span 2 (suc d)) (λ a. sumℕ (0 ⋯ (d - a)) (f a))

module _ (d : ℕ) (o : 1 ≤ d) where
  pub apart : (f : ℕ → ℕ → ℕ) → triangle d f ≡ f 0 0 + f 0 1 + f 1 0 + rest d f
  unfolding ◌⋯◌
  apart f =
      let a = sumℕ_span_first 0 (suc d) (λ a. sumℕ (span 0 (suc (d - a))) (f a)) (omega arith) in let b = sumℕ_span_first 1 (suc d) (λ a. sumℕ (span 0 (suc (d - a))) (f a)) (omega arith) in
      let p = sumℕ_span_first 0 (suc (d - 0)) (f 0) (omega arith) in let q = sumℕ_span_first 1 (suc (d - 0)) (f 0) (omega arith) in let r = sumℕ_span_first 0 (suc (d - 1)) (f 1) (omega arith) in
      omega arith

  rest_mono : {f g : ℕ → ℕ → ℕ} → ((a b : ℕ) → 2 ≤ a + b → f a b ≤ g a b) → rest d f ≤ rest d g
  rest_mono {f} {g} h =
      let a = sumℕ_mono (span 2 (suc (d - 0))) {f = f 0} {g = g 0} (λ b m. let (l, k) = span_member 2 (suc (d - 0)) m in h 0 b (omega arith)) in
      let b = sumℕ_mono (span 1 (suc (d - 1))) {f = f 1} {g = g 1} (λ b m. let (l, k) = span_member 1 (suc (d - 1)) m in h 1 b (omega arith)) in
      let c = sumℕ_mono (span 2 (suc d)) {f = λ a. sumℕ (0 ⋯ (d - a)) (f a)} {g = λ a. sumℕ (0 ⋯ (d - a)) (g a)} (λ a m. let (l, k) = span_member 2 (suc d) m in sumℕ_mono (0 ⋯ (d - a)) (λ b n. h a b (omega arith))) in
      omega arith

  -- two triangles compared at the other places, and two that are the same there
  pub apart_mono : {f g : ℕ → ℕ → ℕ} → ((a b : ℕ) → 2 ≤ a + b → f a b ≤ g a b) → triangle d f + (g 0 0 + g 0 1 + g 1 0) ≤ triangle d g + (f 0 0 + f 0 1 + f 1 0)
  apart_mono {f} {g} h = let a = apart f in let b = apart g in let m = rest_mono h in omega arith

  pub apart_same : {f g : ℕ → ℕ → ℕ} → ((a b : ℕ) → 2 ≤ a + b → f a b ≡ g a b) → triangle d f + (g 0 0 + g 0 1 + g 1 0) ≡ triangle d g + (f 0 0 + f 0 1 + f 1 0)
  apart_same h = let p = apart_mono (λ a b l. Nat.le_of_eq (h a b l)) in let q = apart_mono (λ a b l. Nat.le_of_eq (sym (h a b l))) in omega arith
