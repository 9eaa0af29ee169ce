-- The definitions at numbers, and the tools at work: what the solver proves, and how an identity or an order is carried over from one in hand.
use mathlib.Core.Path.{◌≡◌, refl, ap}
use mathlib.Core.List.{[], ◌∷◌, map}
use Prim.Native.Nat.{ℕ, suc, ◌+◌, ◌*◌}
use lib.IntN.{ℤ, pos, negsuc, one, ◌+ℤ◌, ◌-ℤ◌, ◌*ℤ◌, neg_ℤ, nat_abs, pow}
use lib.Signed.{◌≤ℤ◌}
use Rattle.algebra.specs.Sum.{sum, sumℕ, run, span, ◌⋯◌}
use Rattle.algebra.specs.Binomial.{choose, entry}
use Rattle.algebra.specs.Horner.{shifted, load}
use Rattle.algebra.specs.MinMax.{maxℤ, minℤ, largest}
use Rattle.algebra.specs.Triangle.{row_start, place}
use Rattle.algebra.specs.Digits.{digits}
use Rattle.algebra.proofs.Integer.{≡_by}
use Rattle.algebra.proofs.Order.{≤ℤ_by, +ℤ_mono, *ℤ_mono₂, signs, bounds}
use Rattle.algebra.proofs.Sum.{sum-+, *ℤ-sum}
use Rattle.algebra.proofs.Ring.{ring, ◌⊕◌, ◌⊖◌, ◌⊗◌, ⊝◌, ◌⋆◌, #◌, ◌≐◌}

-- ---- the definitions at numbers
pub ranges : (2 ⋯ 4 ≡ 2 ∷ 3 ∷ 4 ∷ []) × (3 ⋯ 2 ≡ []) × (span 2 4 ≡ 2 ∷ 3 ∷ [])
unfolding run span ◌⋯◌
ranges = (refl, refl, refl)

pub sums : sum (1 ⋯ 4) (λ i. pos (i * i)) ≡ pos 30
unfolding sum run span ◌⋯◌
sums = refl

pub binomials : (map (choose 4) (0 ⋯ 5) ≡ 1 ∷ 4 ∷ 6 ∷ 4 ∷ 1 ∷ 0 ∷ []) × (map (entry (negsuc 2) (pos 2) 3) (0 ⋯ 3) ≡ negsuc 26 ∷ pos 54 ∷ negsuc 35 ∷ pos 8 ∷ [])
    × (map (entry (pos 3) (negsuc 1) 2) (0 ⋯ 2) ≡ pos 9 ∷ negsuc 11 ∷ pos 4 ∷ [])
unfolding choose entry pow one run span ◌⋯◌
binomials = (refl, refl, refl)

-- 1 + 2 x + 3 x² at x = 3 - 2 t is 34 - 40 t + 12 t²; on the way Horner's rule holds 2 + 3 x, which is 11 - 6 t
pub horner : (map (shifted (λ n. pos (suc n)) (pos 3) (negsuc 1) 2 0) (0 ⋯ 3) ≡ pos 34 ∷ negsuc 39 ∷ pos 12 ∷ pos 0 ∷ []) × (map (shifted (λ n. pos (suc n)) (pos 3) (negsuc 1) 2 1) (0 ⋯ 2) ≡ pos 11 ∷ negsuc 5 ∷ pos 0 ∷ [])
unfolding shifted choose entry sum pow one run span ◌⋯◌
horner = (refl, refl)

-- 1 + 2 · 5 + 3 · 25 and 2 + 3 · 5, where the signs do not count; nothing above the top
pub loads : map (load (λ n. negsuc n) 5 2) (0 ⋯ 3) ≡ 86 ∷ 17 ∷ 3 ∷ 0 ∷ []
unfolding load sumℕ run span ◌⋯◌
loads = refl

pub extremes : (maxℤ (pos 2) (negsuc 4) ≡ pos 2) × (maxℤ (negsuc 4) (pos 2) ≡ pos 2) × (minℤ (pos 2) (negsuc 4) ≡ negsuc 4) × (minℤ (negsuc 4) (pos 2) ≡ negsuc 4)
unfolding maxℤ minℤ
extremes = (refl, refl, refl, refl)

pub largest_ones : (largest (3 ∷ 0 ∷ 5 ∷ 2 ∷ 0 ∷ []) (λ n. n) ≡ 5) × (largest (4 ∷ 1 ∷ []) (λ n. n + 2) ≡ 6) × (largest [] (λ (n : ℕ). n) ≡ 0)
unfolding largest
largest_ones = (refl, refl, refl)

-- with d 2 the rows start at 0, 3 and 5 and end at 6, (0,2) stands at 2 and (1,1) at 4; with d 8 there are 45 places
pub places : (map (row_start 2) (0 ⋯ 3) ≡ 0 ∷ 3 ∷ 5 ∷ 6 ∷ []) × (place 2 0 2 ≡ 2) × (place 2 1 1 ≡ 4) × (row_start 8 9 ≡ 45)
unfolding row_start sumℕ run span ◌⋯◌
places = (refl, refl, refl, refl)

pub lengths : map digits (0 ∷ 1 ∷ 2 ∷ 3 ∷ 4 ∷ 255 ∷ 256 ∷ 18446744073709551615 ∷ []) ≡ 0 ∷ 1 ∷ 2 ∷ 2 ∷ 3 ∷ 8 ∷ 9 ∷ 64 ∷ []
unfolding digits sumℕ run span
lengths = refl

-- ---- the solver: a factorisation in three variables
cubes : (a b c : ℤ) → pow a 3 +ℤ pow b 3 +ℤ pow c 3 -ℤ pos 3 *ℤ a *ℤ b *ℤ c ≡ (a +ℤ b +ℤ c) *ℤ (pow a 2 +ℤ pow b 2 +ℤ pow c 2 -ℤ a *ℤ b -ℤ b *ℤ c -ℤ c *ℤ a)
cubes a b c = ring (a ∷ b ∷ c ∷ []) (λ a b c. a ⋆ 3 ⊕ b ⋆ 3 ⊕ c ⋆ 3 ⊖ # 3 ⊗ a ⊗ b ⊗ c ≐ (a ⊕ b ⊕ c) ⊗ (a ⋆ 2 ⊕ b ⋆ 2 ⊕ c ⋆ 2 ⊖ a ⊗ b ⊖ b ⊗ c ⊖ c ⊗ a)) tt

-- ten factors of six variables, moved about
factors : (a b c d e f : ℤ) → a *ℤ (b *ℤ (c *ℤ d)) *ℤ (e *ℤ f) *ℤ (neg_ℤ a *ℤ c) *ℤ (f *ℤ e) ≡ neg_ℤ (f *ℤ f *ℤ (e *ℤ e) *ℤ d *ℤ (c *ℤ c) *ℤ b *ℤ (a *ℤ a))
factors a b c d e f = ring (a ∷ b ∷ c ∷ d ∷ e ∷ f ∷ []) (λ a b c d e f. a ⊗ (b ⊗ (c ⊗ d)) ⊗ (e ⊗ f) ⊗ (⊝ a ⊗ c) ⊗ (f ⊗ e) ≐ ⊝ (f ⊗ f ⊗ (e ⊗ e) ⊗ d ⊗ (c ⊗ c) ⊗ b ⊗ (a ⊗ a))) tt

-- the sixth power of a sum of six: 462 terms
sixth : (a b c d e f : ℤ) → pow (a +ℤ b +ℤ c +ℤ d +ℤ e +ℤ f) 6 ≡ pow (f +ℤ e +ℤ d +ℤ c +ℤ b +ℤ a) 2 *ℤ pow (a +ℤ f +ℤ b +ℤ e +ℤ c +ℤ d) 4
sixth a b c d e f = ring (a ∷ b ∷ c ∷ d ∷ e ∷ f ∷ []) (λ a b c d e f. (a ⊕ b ⊕ c ⊕ d ⊕ e ⊕ f) ⋆ 6 ≐ (f ⊕ e ⊕ d ⊕ c ⊕ b ⊕ a) ⋆ 2 ⊗ (a ⊕ f ⊕ b ⊕ e ⊕ c ⊕ d) ⋆ 4) tt

-- an identity of natural numbers, among the integers
naturals : (m n : ℕ) → (m + n) * (m + n) ≡ m * m + 2 * (m * n) + n * n
naturals m n = ap nat_abs (ring (pos m ∷ pos n ∷ []) (λ m n. (m ⊕ n) ⊗ (m ⊕ n) ≐ m ⊗ m ⊕ # 2 ⊗ (m ⊗ n) ⊕ n ⊗ n) tt)

-- from an equation in hand, and from orders in hand
by_equation : (a b c : ℤ) → a *ℤ a ≡ b +ℤ c → pow a 4 ≡ b *ℤ b +ℤ pos 2 *ℤ b *ℤ c +ℤ c *ℤ c
by_equation a b c e = ≡_by (ap (λ x. pow x 2) e) (ring (a ∷ b ∷ c ∷ []) (λ a b c. a ⋆ 4 ⊖ (b ⊗ b ⊕ # 2 ⊗ b ⊗ c ⊕ c ⊗ c) ≐ (a ⊗ a) ⋆ 2 ⊖ (b ⊕ c) ⋆ 2) tt)

by_orders : (a b c : ℤ) → a ≤ℤ b → b ≤ℤ c → (pos 2 *ℤ a) ≤ℤ (b +ℤ c)
by_orders a b c h k = ≤ℤ_by (+ℤ_mono (+ℤ_mono h h) k) (ring (a ∷ b ∷ c ∷ []) (λ a b c. b ⊕ c ⊖ # 2 ⊗ a ≐ b ⊕ b ⊕ c ⊖ (a ⊕ a ⊕ b)) tt)

-- signs and monotone steps, found by search
by_signs : (a b c : ℤ) → pos 0 ≤ℤ a → pos 0 ≤ℤ b → pos 0 ≤ℤ (a *ℤ (b +ℤ c *ℤ c) +ℤ pow b 7)
by_signs a b c h k = search signs

by_bounds : (a b c d : ℤ) → pos 0 ≤ℤ a → a ≤ℤ b → pos 0 ≤ℤ c → c ≤ℤ d → (pow a 3 *ℤ c +ℤ pos 2) ≤ℤ (pow b 3 *ℤ d +ℤ pos 2)
by_bounds a b c d h k l m = search (bounds, signs, *ℤ_mono₂)

-- laws of sums, by `simp`
linear : (n : ℕ) (f : ℕ → ℤ) (c : ℤ) → sum (0 ⋯ n) (λ i. f i +ℤ c *ℤ f i) ≡ sum (0 ⋯ n) f +ℤ c *ℤ sum (0 ⋯ n) f
linear n f c = simp (sum-+, ← *ℤ-sum)
