-- A sum of powers, term by term under the ceiling 2^62: what holds where the terms before k have been added.
use mathlib.Core.Path.{◌≡◌, sym, ◌∙◌, ap, ap₂}
use Prim.Native.Nat.{ℕ, suc, ◌+◌, ◌*◌, ◌-◌, ◌^◌, ◌≤◌, ◌<◌, min}
use native.Mathlib.Nat as Nat
use native.Mathlib.Numerals.{add-one}
use native.Mathlib.Omega.{arith}
use Rattle.algebra.specs.Sum.{sumℕ, span, ◌⋯◌}
use Rattle.algebra.specs.Triangle.{triangle}
use Rattle.algebra.proofs.Ceiling.{ceil_+, ceil_*}
use Rattle.algebra.proofs.Sum.{sumℕ_cong, *-sumℕ}
use Rattle.algebra.proofs.Run.{sumℕ_span_none, sumℕ_span_next}
use Rattle.weight.specs.Series.{series}

pub record Adding (f : ℕ → ℕ) (r n sum power k : ℕ) : Type 0 where
  pub within : k ≤ n + 1
  pub added : sum ≡ min (sumℕ (span 0 k) (λ j. f j * r ^ j)) (2 ^ 62)
  pub raised : power ≡ min (r ^ k) (2 ^ 62)

module _ {f : ℕ → ℕ} {r n : ℕ} where
  pub adding_start : Adding f r n 0 1 0
  adding_start = record {
    within = omega arith;
    added = let z = sumℕ_span_none 0 0 (λ j. f j * r ^ j) (Nat.le_refl 0) in omega arith;
    raised = let z = Nat.pow-zero r in omega arith;
  }

  -- one term more, and one power more
  pub adding_next : {sum power k factor term total next : ℕ} → k ≤ n → r ≤ 2 ^ 62 → factor ≡ min (f k) (2 ^ 62) → term ≡ min (factor * power) (2 ^ 62) → total ≡ min (sum + term) (2 ^ 62) → next ≡ min (power * r) (2 ^ 62)
      → Adding f r n sum power k → Adding f r n total next (k + 1)
  adding_next {sum} {power} {k} {factor} {term} {total} {next} i h ef et es en p =
      let C = 2 ^ 62 in let g : ℕ → ℕ = λ j. f j * r ^ j in
      let product : term ≡ min (f k * r ^ k) C = et ∙ ap₂ (λ x y. min (x * y) C) ef p.raised ∙ ceil_* C (f k) (r ^ k) in
      record {
        within = omega arith;
        added = es ∙ ap₂ (λ x y. min (x + y) C) p.added product ∙ ceil_+ C (sumℕ (span 0 k) g) (g k) ∙ ap (λ x. min x C) (sym (sumℕ_span_next 0 k g (omega arith)));
        raised = en ∙ ap₂ (λ x y. min (x * y) C) p.raised (sym (Nat.min-eq_left h)) ∙ ceil_* C (r ^ k) r ∙ ap (λ x. min x C) (sym (ap (λ m. r ^ m) (add-one k) ∙ Nat.pow-suc r k));
      }

  pub adding_end : {sum power k : ℕ} → n < k → Adding f r n sum power k → sum ≡ min (series f r n) (2 ^ 62)
  unfolding ◌⋯◌
  adding_end {sum} {power} {k} h p = let e : k ≡ suc n = omega arith in p.added ∙ ap (λ m. min (sumℕ (span 0 m) (λ j. f j * r ^ j)) (2 ^ 62)) e

-- ---- rows of powers of ry, each times its own power of rx, are the triangle of both
regrouped : (a p q : ℕ) → p * (a * q) ≡ a * p * q
regrouped a p q = Nat.mul_left_comm p a q ∙ sym (Nat.mul_assoc a p q)

pub rows_triangle : (f : ℕ → ℕ → ℕ) (rx ry d : ℕ) → series (λ i. series (f i) ry (d - i)) rx d ≡ triangle d (λ i j. f i j * rx ^ i * ry ^ j)
rows_triangle f rx ry d = sumℕ_cong (0 ⋯ d) (λ i m.
    Nat.mul_comm (series (f i) ry (d - i)) (rx ^ i) ∙ *-sumℕ (rx ^ i) (0 ⋯ (d - i)) (λ j. f i j * ry ^ j) ∙ sumℕ_cong (0 ⋯ (d - i)) (λ j k. regrouped (f i j) (rx ^ i) (ry ^ j)))
