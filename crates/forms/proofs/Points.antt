-- The powers x^e of a point: of a multiple, of equal coordinates, of absolute values, at even exponents, and their size.
use mathlib.Core.Path.{◌≡◌, refl, sym}
use mathlib.Core.List.{List, [], ◌∷◌}
use Prim.Native.Nat.{ℕ, zero, suc, ◌*◌, ◌^◌, ◌/◌, ◌≤◌}
use native.Mathlib.Nat as Nat
use native.Mathlib.Omega.{arith}
use lib.Dec.{T}
use lib.IntN.{ℤ, pos, ◌*ℤ◌, nat_abs, pow}
use lib.ListN.{length}
use lib.Pow.{pow-add}
use lib.Signed.{◌≤ℤ◌}
use Rattle.algebra.proofs.Power.{pow_zero, pow_+, *ℤ_pow, pos_pow, *_pow, one_powℕ}
use Rattle.algebra.proofs.Order.{nonneg, *ℤ_nonneg, pow_even_nonneg}
use Rattle.algebra.proofs.Absolute.{nat_abs-*ℤ, nat_abs_pow}
use Rattle.algebra.proofs.Ring.{ring, ◌⊗◌, ◌≐◌}
use Rattle.forms.specs.Vectors.{total, all_even}
use Rattle.forms.specs.Points.{Point, Each, rest, powers, powersℕ}
use Rattle.forms.proofs.Vectors.{even_first, even_rest}

-- ---- what holds at each variable holds at the first and at each later one
pub at_first : {n : ℕ} {P : ℕ → Type 0} → Each (suc n) P → P 0
at_first {n} h = h 0 (Nat.zero-lt-suc n)

pub at_rest : {n : ℕ} {P : ℕ → Type 0} → Each (suc n) P → Each n (λ v. P (suc v))
at_rest h v i = h (suc v) ((Nat.suc-le-suc_iff).1 i)

pub each_cons : {n : ℕ} (P : ℕ → Type 0) → P 0 → Each n (λ v. P (suc v)) → Each (suc n) P
each_cons P p q zero i = p
each_cons P p q (suc v) i = q v (omega arith)

-- ---- equations
pub powers_agree : (e : List ℕ) (x y : Point) → Each (length e) (λ v. x v ≡ y v) → powers x e ≡ powers y e
unfolding powers
powers_agree [] x y h = refl
powers_agree (i ∷ e) x y h = rw (at_first h, powers_agree e (rest x) (rest y) (at_rest h))

pub powers_zero : (e : List ℕ) (x : Point) → total e ≡ 0 → powers x e ≡ pos 1
unfolding powers total
powers_zero [] x h = refl
powers_zero (i ∷ e) x h = let z : i ≡ 0 = omega arith in rw (z, pow_zero, powers_zero e (rest x) (omega arith))

-- of equal coordinates
pub powers_equal : (e : List ℕ) (c : ℤ) → powers (λ v. c) e ≡ pow c (total e)
unfolding powers total
powers_equal [] c = sym (pow_zero c)
powers_equal (i ∷ e) c = rw (pow_+, powers_equal e c)

-- of a multiple
pub powers-*ℤ : (e : List ℕ) (c : ℤ) (x : Point) → powers (λ v. c *ℤ x v) e ≡ pow c (total e) *ℤ powers x e
unfolding powers total
powers-*ℤ [] c x = rw (pow_zero c)
powers-*ℤ (i ∷ e) c x = rw (*ℤ_pow, pow_+, powers-*ℤ e c (rest x))
    (ring (pow c i ∷ pow c (total e) ∷ pow (x 0) i ∷ powers (rest x) e ∷ []) (λ a b x p. a ⊗ x ⊗ (b ⊗ p) ≐ a ⊗ b ⊗ (x ⊗ p)) tt)

-- of natural numbers, and of absolute values
pub pos_powersℕ : (e : List ℕ) (r : ℕ → ℕ) → powers (λ v. pos (r v)) e ≡ pos (powersℕ r e)
unfolding powers powersℕ
pos_powersℕ [] r = refl
pos_powersℕ (i ∷ e) r = rw (pos_pow, pos_powersℕ e (rest r))

pub nat_abs_powers : (e : List ℕ) (x : Point) → nat_abs (powers x e) ≡ powersℕ (λ v. nat_abs (x v)) e
unfolding powers powersℕ
nat_abs_powers [] x = refl
nat_abs_powers (i ∷ e) x = rw (nat_abs-*ℤ, nat_abs_pow, nat_abs_powers e (rest x))

pub powersℕ_equal : (e : List ℕ) (c : ℕ) → powersℕ (λ v. c) e ≡ c ^ total e
unfolding powersℕ total
powersℕ_equal [] c = sym (Nat.pow-zero c)
powersℕ_equal (i ∷ e) c = rw (pow-add, powersℕ_equal e c)

pub powersℕ-* : (e : List ℕ) (c : ℕ) (r : ℕ → ℕ) → powersℕ (λ v. c * r v) e ≡ c ^ total e * powersℕ r e
unfolding powersℕ total
powersℕ-* [] c r = rw (Nat.pow-zero c)
powersℕ-* (i ∷ e) c r = rw (*_pow, pow-add, powersℕ-* e c (rest r)) (Nat.mul-mul-mul_comm (c ^ i) (r 0 ^ i) (c ^ total e) (powersℕ (rest r) e))

-- ---- size and sign
pub powersℕ_mono : (e : List ℕ) (r s : ℕ → ℕ) → Each (length e) (λ v. r v ≤ s v) → powersℕ r e ≤ powersℕ s e
unfolding powersℕ
powersℕ_mono [] r s h = Nat.le_refl 1
powersℕ_mono (i ∷ e) r s h = Nat.mul-le-mul (Nat.pow-le-pow_left (at_first h) i) (powersℕ_mono e (rest r) (rest s) (at_rest h))

-- where every coordinate is at most c
pub powers_size : (e : List ℕ) (x : Point) (c : ℕ) → Each (length e) (λ v. nat_abs (x v) ≤ c) → nat_abs (powers x e) ≤ c ^ total e
powers_size e x c h = rw (nat_abs_powers e x, ← (powersℕ_equal e c)) (powersℕ_mono e (λ v. nat_abs (x v)) (λ v. c) h)

-- where every coordinate is 1 or -1
pub powers_signs : (e : List ℕ) (σ : Point) → Each (length e) (λ v. nat_abs (σ v) ≡ 1) → nat_abs (powers σ e) ≤ 1
powers_signs e σ h = rw one_powℕ at (powers_size e σ 1 (λ v i. Nat.le_of_eq (h v i)))

pub powers_even : (e : List ℕ) (x : Point) → T (all_even e) → pos 0 ≤ℤ powers x e
unfolding powers
powers_even [] x t = nonneg 1
powers_even (i ∷ e) x t =
    let z = even_first i e t in let p : 2 * (i / 2) ≡ i = omega arith in
    *ℤ_nonneg (rw p at (pow_even_nonneg (x 0) (i / 2))) (powers_even e (rest x) (even_rest i e t))
