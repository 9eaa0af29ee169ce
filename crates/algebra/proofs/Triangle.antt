-- Triangles of natural numbers.
use Prim.Native.Nat.{ℕ, ◌+◌, ◌-◌, ◌≤◌}
use native.Mathlib.Omega.{arith}
use Rattle.algebra.specs.Sum.{◌⋯◌}
use Rattle.algebra.specs.Triangle.{triangle}
use Rattle.algebra.proofs.Sum.{sumℕ_mono}
use Rattle.algebra.proofs.Run.{⋯_member}

-- two triangles compared, place by place
pub triangle_mono : (d : ℕ) {f g : ℕ → ℕ → ℕ} → ((i j : ℕ) → i + j ≤ d → f i j ≤ g i j) → triangle d f ≤ triangle d g
triangle_mono d h = sumℕ_mono (0 ⋯ d) (λ i m. sumℕ_mono (0 ⋯ (d - i)) (λ j k. let p = ⋯_member 0 d m in let q = ⋯_member 0 (d - i) k in h i j (omega arith)))
