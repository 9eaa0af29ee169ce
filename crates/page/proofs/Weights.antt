-- The weight of a sheet: it is that of the polynomial in the plane, and the load of the scaled coefficients, each of which it bounds.
use mathlib.Core.Path.{◌≡◌, sym, ◌∙◌}
use Prim.Native.Nat.{ℕ, ◌+◌, ◌*◌, ◌-◌, ◌^◌, ◌≤◌, ◌<◌, max}
use native.Mathlib.Nat as Nat
use native.Mathlib.Omega.{arith}
use lib.IntN.{ℤ, pos, negsuc, ◌+ℤ◌, nat_abs}
use lib.Pow.{pow_pos, pow_mono}
use Rattle.algebra.specs.Sum.{sumℕ, ◌⋯◌}
use Rattle.algebra.specs.Triangle.{triangle}
use Rattle.algebra.proofs.Absolute.{nat_abs-*ℤ, nat_abs-+ℤ}
use Rattle.algebra.proofs.Sum.{sumℕ_member}
use Rattle.algebra.proofs.Run.{member_⋯}
use Rattle.forms.specs.Plane.{pair, plane}
use Rattle.forms.specs.Weight.{weight as plane-weight}
use Rattle.forms.proofs.Plane.{weight_axes}
use Rattle.forms.proofs.Moves.{scaled_weight}
use Rattle.page.specs.Sheet.{Sheet, A, InRange}
use Rattle.page.specs.Scaled.{scaled}
use Rattle.page.specs.Weight.{axis_limit, Rx, Ry, weight, Accepted}

-- ---- the limit of an axis is at least 1, since z and z + 2^s are not both 0; and where the numbers are in range, it is small
one_of : (z : ℤ) (n : ℕ) → 1 ≤ n → 1 ≤ max (nat_abs z) (nat_abs (z +ℤ pos n))
one_of (pos m) n h = omega arith
one_of (negsuc m) n h = omega arith

axis_positive : (z : ℤ) (s : ℕ) → 1 ≤ axis_limit z s
axis_positive z s = let h = one_of z (2 ^ s) (pow_pos s) in omega arith

pub axis_small : (z : ℤ) (s : ℕ) → nat_abs z ≤ 1_048_576 → s ≤ 10 → axis_limit z s ≤ 2_097_152
axis_small z s h k = let m : 2 ^ s ≤ 2 ^ 10 = pow_mono k in let t = nat_abs-+ℤ z (pos (2 ^ s)) in omega arith

-- so it is with Rx and Ry
pub limits_positive : (S : Sheet) → (1 ≤ Rx S) × (1 ≤ Ry S)
limits_positive S = let x = axis_positive S.X S.s in let y = axis_positive S.Y S.s in (omega arith, omega arith)

pub limits_small : {S : Sheet} → InRange S → (Rx S ≤ 2_097_152) × (Ry S ≤ 2_097_152)
limits_small {S} r = let x = axis_small S.X S.s r.corner_x r.side in let y = axis_small S.Y S.s r.corner_y r.side in (omega arith, omega arith)

-- and with both in units of 1/2^(k+1)
pub scaled_positive : (S : Sheet) → (1 ≤ 2 ^ (S.k + 1) * Rx S) × (1 ≤ 2 ^ (S.k + 1) * Ry S)
scaled_positive S = let h = limits_positive S in (Nat.mul-le-mul (pow_pos (S.k + 1)) h.0, Nat.mul-le-mul (pow_pos (S.k + 1)) h.1)

-- ---- the weight is that of the polynomial in the plane, with the limits Rx and Ry for its variables
abbrev pub limits : Sheet → ℕ → ℕ
limits S = pair (Rx S) (Ry S)

pub weight_is : (S : Sheet) → weight S ≡ plane-weight (plane S.d (2 ^ (S.k + 1)) (A S)) (limits S)
unfolding weight
weight_is S = sym (weight_axes S.d S.k (A S) (limits S))

-- and the load of the scaled coefficients at 2^(k+1) Rx and 2^(k+1) Ry, which no point of the square is past
pub scaled_load : (S : Sheet) → triangle S.d (λ i j. nat_abs (scaled S i j) * ((2 ^ (S.k + 1) * Rx S) ^ i * (2 ^ (S.k + 1) * Ry S) ^ j)) ≡ weight S
scaled_load S = scaled_weight S.d S.k (A S) (limits S) ∙ sym (weight_is S)

-- ---- each scaled coefficient is at most the weight, and so below 2^62 on an accepted sheet
-- one term of a triangle is at most the whole
pub member_triangle : (d : ℕ) (g : ℕ → ℕ → ℕ) (i j : ℕ) → i + j ≤ d → g i j ≤ triangle d g
member_triangle d g i j h = Nat.le_trans (sumℕ_member (g i) (member_⋯ 0 (d - i) j (omega arith) (omega arith))) (sumℕ_member (λ i. sumℕ (0 ⋯ (d - i)) (g i)) (member_⋯ 0 d i (omega arith) (omega arith)))

-- a factor of powers of m and n, both at least 1, makes nothing smaller
times_powers : (c m n i j : ℕ) → 1 ≤ m → 1 ≤ n → c ≤ c * (m ^ i * n ^ j)
times_powers c m n i j h k =
    let p = Nat.mul-le-mul (Nat.one-le-pow i m h) (Nat.one-le-pow j n k) in let q = Nat.mul-le-mul_left c p in omega arith

-- the size of a scaled coefficient, as `scaled_row` asks for it
pub place_light : {S : Sheet} → Accepted S → (i j : ℕ) → i + j ≤ S.d → nat_abs (A S i j) * 2 ^ ((S.k + 1) * (S.d - i - j)) < 2 ^ 62
place_light {S} a i j h =
    let m = 2 ^ (S.k + 1) * Rx S in let n = 2 ^ (S.k + 1) * Ry S in
    let p = member_triangle S.d (λ i j. nat_abs (scaled S i j) * (m ^ i * n ^ j)) i j h in
    let q = times_powers (nat_abs (scaled S i j)) m n i j (scaled_positive S).0 (scaled_positive S).1 in
    let e = nat_abs-*ℤ (A S i j) (pos (2 ^ ((S.k + 1) * (S.d - i - j)))) in
    let w = scaled_load S in omega arith
