-- What a coefficient of the local form gives to the bounds and to the bend, and the opposite polynomial, which turns lower bounds into upper ones.
use mathlib.Core.Path.{◌≡◌, refl}
use mathlib.Core.List.{List}
use Prim.Native.Nat.{ℕ, ◌≤◌, ◌<◌}
use native.Mathlib.Nat as Nat
use native.Mathlib.Omega.{arith}
use lib.Dec.{T, eqb, eqb→eq, leb→le, nleb→lt}
use lib.IntN.{ℤ, pos, neg_ℤ, nat_abs, neg_ℤ-neg_ℤ}
use Rattle.algebra.specs.MinMax.{minℤ}
use Rattle.algebra.proofs.Choice.{choice, cond_ap}
use Rattle.algebra.proofs.Integer.{neg_ℤ_*ℤ}
use Rattle.algebra.proofs.Order.{nonneg, ≤ℤ_trans, neg_ℤ_mono}
use Rattle.algebra.proofs.Absolute.{nat_abs_neg_ℤ, nat_abs_bound, -nat_abs-≤ℤ}
use Rattle.algebra.proofs.MinMax.{minℤ-≤ℤ, minℤ_greatest, neg_ℤ_minℤ}
use Rattle.algebra.proofs.Sum.{neg_ℤ_sum}
use Rattle.forms.specs.Vectors.{total, all_even}
use Rattle.forms.specs.Points.{Point}
use Rattle.forms.specs.Polynomial.{Polynomial, scaled, value_term, value}
use Rattle.forms.specs.LocalForm.{local_term, local}
use Rattle.forms.specs.Bounds.{Mode, affine, centred, even_rule, low, high, lower, upper, bends, bent, bend}
use Rattle.forms.proofs.Vectors.{even_total}

-- ---- the lower bound, by the three cases of its definition
rule_even : (mode : Mode) (a : List ℕ) → T (even_rule mode a) → T (all_even a)
rule_even affine a t = t
rule_even centred a t = search

pub low_cases : (P : ℤ → Type 0) (mode : Mode) (a : List ℕ) (g : ℤ) →
    (total a ≡ 0 → P g) → (T (all_even a) → P (minℤ (pos 0) g)) → P (neg_ℤ (pos (nat_abs g))) → P (low mode a g)
unfolding low
low_cases P mode a g none even other = choice P (eqb (total a) 0) _ _ (λ t. none (eqb→eq (total a) 0 t))
    (λ t. choice P (even_rule mode a) _ _ (λ t. even (rule_even mode a t)) (λ t. other))

pub low_zero : (mode : Mode) (a : List ℕ) (g : ℤ) → total a ≡ 0 → low mode a g ≡ g
unfolding low
low_zero mode a g h = rw h

-- a single exponent is not even, so it takes -|g| in both modes
pub low_one : (mode : Mode) (a : List ℕ) (g : ℤ) → total a ≡ 1 → low mode a g ≡ neg_ℤ (pos (nat_abs g))
low_one mode a g h = low_cases (λ x. x ≡ neg_ℤ (pos (nat_abs g))) mode a g (λ z. absurd (omega arith)) (λ t. absurd (let p = even_total a t in omega arith)) refl

pub nat_abs_low : (mode : Mode) (a : List ℕ) (g : ℤ) → nat_abs (low mode a g) ≤ nat_abs g
nat_abs_low mode a g = low_cases (λ x. nat_abs x ≤ nat_abs g) mode a g (λ z. Nat.le_refl (nat_abs g))
    (λ t. nat_abs_bound (minℤ_greatest (neg_ℤ_mono (nonneg (nat_abs g))) (-nat_abs-≤ℤ g)) (≤ℤ_trans (minℤ-≤ℤ (pos 0) g).0 (nonneg (nat_abs g))))
    (Nat.le_of_eq (nat_abs_neg_ℤ (pos (nat_abs g))))

-- ---- the upper bound: the lower bound at -g, with the other sign
pub high_low : (mode : Mode) (a : List ℕ) (g : ℤ) → high mode a g ≡ neg_ℤ (low mode a (neg_ℤ g))
unfolding low high
high_low mode a g = simp (cond_ap neg_ℤ, neg_ℤ_minℤ, neg_ℤ-neg_ℤ, nat_abs_neg_ℤ)

pub nat_abs_high : (mode : Mode) (a : List ℕ) (g : ℤ) → nat_abs (high mode a g) ≤ nat_abs g
nat_abs_high mode a g = rw (high_low, nat_abs_neg_ℤ, ← (nat_abs_neg_ℤ g)) (nat_abs_low mode a (neg_ℤ g))

-- ---- the bend: nothing where |a| < 2, and |g| from there on
pub bent_few : (a : List ℕ) (g : ℤ) → total a < 2 → bent a g ≡ 0
unfolding bent
bent_few a g h = choice (λ n. n ≡ 0) (bends a) (nat_abs g) 0 (λ t. absurd (omega (arith, leb→le))) (λ t. refl)

pub bent_many : (a : List ℕ) (g : ℤ) → 2 ≤ total a → bent a g ≡ nat_abs g
unfolding bent
bent_many a g h = choice (λ n. n ≡ nat_abs g) (bends a) (nat_abs g) 0 (λ t. refl) (λ t. absurd (omega (arith, nleb→lt)))

pub bent_le : (a : List ℕ) (g : ℤ) → bent a g ≤ nat_abs g
unfolding bent
bent_le a g = choice (λ n. n ≤ nat_abs g) (bends a) (nat_abs g) 0 (λ t. Nat.le_refl (nat_abs g)) (λ t. omega arith)

-- ---- the opposite polynomial
abbrev pub opposite : Polynomial → Polynomial
opposite F = record { variables = F.variables; degree = F.degree; scale = F.scale; coefficient = λ e. neg_ℤ (F.coefficient e) }

module _ (F : Polynomial) where
  scaled_opposite : (e : List ℕ) → scaled (opposite F) e ≡ neg_ℤ (scaled F e)
  unfolding scaled
  scaled_opposite e = simp neg_ℤ_*ℤ

  pub value_opposite : (x : Point) (Q : ℕ) → value (opposite F) x Q ≡ neg_ℤ (value F x Q)
  unfolding value
  value_opposite x Q = simp (value, value_term, scaled_opposite, neg_ℤ_*ℤ, neg_ℤ_sum)

  local_opposite : (u : Point) (H : ℕ) (a : List ℕ) → local (opposite F) u H a ≡ neg_ℤ (local F u H a)
  unfolding local
  local_opposite u H a = simp (local, local_term, scaled_opposite, neg_ℤ_*ℤ, neg_ℤ_sum)

  pub upper_lower : (mode : Mode) (u : Point) (H : ℕ) → upper F mode u H ≡ neg_ℤ (lower (opposite F) mode u H)
  unfolding upper lower
  upper_lower mode u H = simp (upper, lower, high_low, local_opposite, neg_ℤ_sum)

  pub bend_opposite : (u : Point) (H : ℕ) → bend (opposite F) u H ≡ bend F u H
  unfolding bend bent
  bend_opposite u H = simp (bend, bent, local_opposite, nat_abs_neg_ℤ)
