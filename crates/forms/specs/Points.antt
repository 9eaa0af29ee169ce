-- Points: a whole number for each variable, the variables being numbered 0, 1, .., n - 1. What stands past the last variable is never read.
use Rattle.std.specs.Prelude.{List, [], ◌∷◌, ℕ, suc, ◌*◌, ◌^◌, ◌<◌, ℤ, pos, ◌*ℤ◌}
use Rattle.std.proofs.Math.IntN.{pow}

abbrev pub Point : Type 0
Point = ℕ → ℤ

-- P at each of n variables
abbrev pub Each : ℕ → (ℕ → Type 0) → Type 0
Each n P = (v : ℕ) → v < n → P v

-- the coordinates after the first
abbrev pub rest {ℓ} : {A : Type ℓ} → (ℕ → A) → ℕ → A
rest x v = x (suc v)

-- x^e, the product of the powers; the same of natural numbers
unfoldable pub powers : Point → List ℕ → ℤ
powers x [] = pos 1
powers x (i ∷ e) = pow (x 0) i *ℤ powers (rest x) e

unfoldable pub powersℕ : (ℕ → ℕ) → List ℕ → ℕ
powersℕ r [] = 1
powersℕ r (i ∷ e) = r 0 ^ i * powersℕ (rest r) e
