-- Demand 3 over one box, as statements, each about every polynomial, both modes and every box. That they hold is proofs/Demand3.
use Rattle.std.specs.Prelude.{◌≡◌, ℕ, ◌*◌, ◌^◌, ◌≤◌, ℤ, pos, ◌+ℤ◌, ◌-ℤ◌, ◌*ℤ◌, nat_abs, ◌≤ℤ◌, ◌<ℤ◌}
use Rattle.algebra.specs.Sum.{sumℕ}
use Rattle.forms.specs.Points.{Point}
use Rattle.forms.specs.Polynomial.{Polynomial, indices, value}
use Rattle.forms.specs.Box.{InBox, Signs, corner}
use Rattle.forms.specs.LocalForm.{local}
use Rattle.forms.specs.Bounds.{Mode, lower, upper, bend}
use Rattle.forms.specs.Weight.{weight, Limited}
use Rattle.forms.specs.Straight.{zero_denominator, zero_point}

-- the scaled value at every point with fractional coordinates, edges included, lies between the bounds
abbrev pub Contained : Type 0
Contained = (F : Polynomial) (mode : Mode) (u : Point) (H : ℕ) (x : Point) (Q : ℕ) → InBox F u H x Q →
    ((pos (Q ^ F.degree) *ℤ lower F mode u H) ≤ℤ value F x Q) × (value F x Q ≤ℤ (pos (Q ^ F.degree) *ℤ upper F mode u H))

-- where a bound is strict, every value in the box has its sign
abbrev pub StrictlySigned : Type 0
StrictlySigned = (F : Polynomial) (mode : Mode) (u : Point) (H : ℕ) (x : Point) (Q : ℕ) → 1 ≤ Q → InBox F u H x Q →
    (pos 0 <ℤ lower F mode u H → pos 0 <ℤ value F x Q) × (upper F mode u H <ℤ pos 0 → value F x Q <ℤ pos 0)

-- no bound overshoots the extreme corner value on its side by more than twice the bend: m - 2 bend ≤ lower for every m that is at most each corner value, and likewise above
abbrev pub NoOvershoot : Type 0
NoOvershoot = (F : Polynomial) (mode : Mode) (u : Point) (H : ℕ) →
    ((m : ℤ) → ((σ : Point) → Signs F σ → m ≤ℤ value F (corner u H σ) 1) → (m -ℤ pos (2 * bend F u H)) ≤ℤ lower F mode u H)
    × ((m : ℤ) → ((σ : Point) → Signs F σ → value F (corner u H σ) 1 ≤ℤ m) → upper F mode u H ≤ℤ (m +ℤ pos (2 * bend F u H)))

-- where nothing bends and the bounds enclose zero, the value is zero at a point of the closed box, and this is the point
abbrev pub ZeroGiven : Type 0
ZeroGiven = (F : Polynomial) (mode : Mode) (u : Point) (H : ℕ) → bend F u H ≡ 0 → lower F mode u H ≤ℤ pos 0 → pos 0 ≤ℤ upper F mode u H →
    (1 ≤ zero_denominator F mode u H) × InBox F u H (zero_point F mode u H) (zero_denominator F mode u H) × (value F (zero_point F mode u H) (zero_denominator F mode u H) ≡ pos 0)

-- within the limits, the places of the local form together, both bounds, the bend, and the value at every whole point of the box are at most the weight
abbrev pub Sized : Type 0
Sized = (F : Polynomial) (mode : Mode) (u : Point) (H : ℕ) (R : ℕ → ℕ) → Limited F u H R →
    (sumℕ (indices F) (λ a. nat_abs (local F u H a)) ≤ weight F R) × (nat_abs (lower F mode u H) ≤ weight F R) × (nat_abs (upper F mode u H) ≤ weight F R) × (bend F u H ≤ weight F R)
    × ((x : Point) → InBox F u H x 1 → nat_abs (value F x 1) ≤ weight F R)
