-- Powers, of integers (`pow`, of `lib.IntN`) and of natural numbers.
use mathlib.Core.Path.{◌≡◌, refl, sym, ◌∙◌, ap}
use Prim.Native.Nat.{ℕ, zero, suc, ◌+◌, ◌*◌, ◌%◌, ◌^◌, ◌≤◌}
use native.Mathlib.Nat as Nat
use native.Mathlib.Omega.{arith}
use lib.Dec.{lit<}
use lib.IntN.{ℤ, pos, ◌*ℤ◌, one, pow}
use lib.Pow.{shl_exact, pow-add}
use Rattle.algebra.proofs.Integer.{*ℤ_idl, *ℤ_idr, *ℤ_assoc, *ℤ_left_comm}

pub pow_zero : (a : ℤ) → pow a 0 ≡ pos 1
unfolding pow one
pow_zero a = refl

pub pow_suc : (a : ℤ) (n : ℕ) → pow a (suc n) ≡ pow a n *ℤ a
unfolding pow
pow_suc a n = refl

pub pow_one : (a : ℤ) → pow a 1 ≡ a
pow_one a = rw (pow_suc a 0, pow_zero a) (*ℤ_idl a)

pub pow_+ : (a : ℤ) (m n : ℕ) → pow a (m + n) ≡ pow a m *ℤ pow a n
pow_+ a m zero = simp (Nat.add-zero, pow_zero, *ℤ_idr)
pow_+ a m (suc n) = simp (Nat.add-suc, pow_suc, pow_+ a m n, *ℤ_assoc)

pub *ℤ_pow : (a b : ℤ) (n : ℕ) → pow (a *ℤ b) n ≡ pow a n *ℤ pow b n
*ℤ_pow a b zero = simp pow_zero
*ℤ_pow a b (suc n) = simp (pow_suc, *ℤ_pow a b n, *ℤ_assoc) (rw (*ℤ_left_comm (pow b n) a b))

pub pow_* : (a : ℤ) (m n : ℕ) → pow a (m * n) ≡ pow (pow a m) n
pow_* a m zero = simp (Nat.mul-zero, pow_zero)
pow_* a m (suc n) = simp (Nat.mul-suc, pow_suc, pow_+, pow_* a m n)

pub one_pow : (n : ℕ) → pow (pos 1) n ≡ pos 1
one_pow zero = pow_zero (pos 1)
one_pow (suc n) = simp (pow_suc, one_pow n)

-- ---- natural numbers
pub pos_pow : (a n : ℕ) → pow (pos a) n ≡ pos (a ^ n)
pos_pow a zero = simp (pow_zero, Nat.pow-zero)
pos_pow a (suc n) = simp (pow_suc, Nat.pow-suc, pos_pow a n)

pub *_pow : (a b n : ℕ) → (a * b) ^ n ≡ a ^ n * b ^ n
*_pow a b zero = simp Nat.pow-zero
*_pow a b (suc n) = rw (Nat.pow-suc (a * b), *_pow a b n, Nat.pow-suc a, Nat.pow-suc b) (Nat.mul-mul-mul_comm (a ^ n) (b ^ n) a b)

pub one_powℕ : (n : ℕ) → 1 ^ n ≡ 1
one_powℕ zero = Nat.pow-zero 1
one_powℕ (suc n) = rw (Nat.pow-suc 1 n, one_powℕ n)

-- the machine's 1 << 2k is 4^k, since it fits
pub four_shifted : (k : ℕ) → k ≤ 7 → 1 * 2 ^ (2 * k) % 2 ^ 64 ≡ 4 ^ k
four_shifted k h = shl_exact 1 (2 * k) 64 (lit< tt) (omega arith) ∙ Nat.one-mul (2 ^ (2 * k)) ∙ ap (λ n. 2 ^ n) (Nat.two-mul k) ∙ pow-add 2 k k ∙ sym (*_pow 2 2 k)
