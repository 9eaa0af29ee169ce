-- From sizes to the machine's ranges: what is below 2^63 in size fits 64 signed bits, and is read back from its bits.
use mathlib.Core.Path.{◌≡◌}
use Prim.Native.Nat.{ℕ, ◌+◌, ◌*◌, ◌^◌, ◌≤◌, ◌<◌}
use native.Mathlib.Nat as Nat
use native.Mathlib.Omega.{arith}
use lib.IntN.{ℤ, pos, negsuc, ◌+ℤ◌, ◌-ℤ◌, ◌*ℤ◌, neg_ℤ, nat_abs}
use lib.Signed.{mag}
use mir.Syntax.{w64}
use mir.Val.{SFits, to_z, of_z}
use mir.Facts.{to_z-of_z}
use Rattle.algebra.proofs.Absolute.{nat_abs_neg_ℤ, nat_abs-*ℤ, nat_abs-+ℤ}
use Rattle.numbers.specs.Room.{Room}

mag_nat_abs : (z : ℤ) → mag z ≤ nat_abs z
mag_nat_abs (pos n) = Nat.le_refl n
mag_nat_abs (negsuc n) = omega arith

pub fits64 : (z : ℤ) → nat_abs z < 2 ^ 63 → SFits w64 z
fits64 z h = record { sfits = Nat.lt_of_le_of_lt (mag_nat_abs z) h }

-- an element that was read, by what the read tells of it
pub read64 : (z : ℤ) → mag z < 2 ^ 63 → to_z w64 (of_z w64 z) ≡ z
read64 z h = to_z-of_z {w = w64} (record { sfits = h })

-- ---- sums and products
pub fits_total : (a b : ℤ) → nat_abs a + nat_abs b < 2 ^ 63 → SFits w64 (a +ℤ b)
fits_total a b h = fits64 (a +ℤ b) (let t = nat_abs-+ℤ a b in omega arith)

pub fits_product : (a b : ℤ) → nat_abs a * nat_abs b < 2 ^ 63 → SFits w64 (a *ℤ b)
fits_product a b h = fits64 (a *ℤ b) (rw nat_abs-*ℤ h)

-- ---- a sum of two products
module _ (x u y h : ℤ) (room : Room x u y h) where
  pub fits_left : SFits w64 (x *ℤ u)
  fits_left = fits64 (x *ℤ u) (rw nat_abs-*ℤ (omega arith))

  pub fits_right : SFits w64 (y *ℤ h)
  fits_right = fits64 (y *ℤ h) (rw nat_abs-*ℤ (omega arith))

  pub fits_sum : SFits w64 (x *ℤ u +ℤ y *ℤ h)
  fits_sum = fits64 (x *ℤ u +ℤ y *ℤ h)
      (let t = nat_abs-+ℤ (x *ℤ u) (y *ℤ h) in let p = nat_abs-*ℤ x u in let q = nat_abs-*ℤ y h in omega arith)

-- ---- a size added or taken away
module _ (x : ℤ) (n : ℕ) (h : nat_abs x + n < 2 ^ 63) where
  pub fits_plus : SFits w64 (x +ℤ pos n)
  fits_plus = fits64 (x +ℤ pos n) (let t = nat_abs-+ℤ x (pos n) in omega arith)

  pub fits_minus : SFits w64 (x -ℤ pos n)
  fits_minus = fits64 (x -ℤ pos n) (let t = nat_abs-+ℤ x (neg_ℤ (pos n)) in let e = nat_abs_neg_ℤ (pos n) in omega arith)
