-- What the promises of `check`, `value` and `bounds` say of an answer, for every outcome that satisfies them. That they hold is proofs/Facts.
use Rattle.std.specs.Prelude.{◌≡◌, ℕ, ◌*◌, ◌^◌, ◌≤◌, ℤ, pos, ◌*ℤ◌, ◌≤ℤ◌, ◌<ℤ◌, Result, Ok}
use Rattle.verdicts.specs.declared.Verdict.{Verdict}
use Rattle.verdicts.specs.declared.Verdict.TheVariants.{Above, Below, Open}
use Rattle.page.specs.Sheet.{Sheet}
use Rattle.page.specs.Scaled.{half_side, U0, V0, InCell, value_at, MeetsCurve}
use Rattle.page.specs.Refusals.{refusal, to_check, at_point, in_cell}
use Rattle.page.specs.Demand3.{AtCorners, NearCorners}
use Rattle.probe.specs.declared.Checked.{Checked}
use Rattle.page.specs.declared.Refusal.{Refusal}
use Rattle.probe.specs.Answers.{states_weight, states_value, states_bounds}
use Rattle.probe.specs.Promises.{CheckPromise, ValuePromise, BoundsPromise}

-- ---- the number that an answer states is the table's
abbrev pub CheckNumber : Type 0
CheckNumber = (S : Sheet) (r : Result Checked Refusal) → CheckPromise S r → (states_weight r).number ≡ refusal (to_check S)

abbrev pub ValueNumber : Type 0
ValueNumber = (S : Sheet) (u v : ℤ) (r : Result ℤ Refusal) → ValuePromise S u v r → (states_value r).number ≡ refusal (at_point S u v)

abbrev pub BoundsNumber : Type 0
BoundsNumber = (S : Sheet) (mode j p q : ℕ) (r : Result Verdict Refusal) → BoundsPromise S mode j p q r → (states_bounds r).number ≡ refusal (in_cell S mode j p q)

-- ---- where it is not 0, zeros stand beside it: every other number that the answer states is 0
abbrev pub CheckZeros : Type 0
CheckZeros = (S : Sheet) (r : Result Checked Refusal) → CheckPromise S r → (refusal (to_check S) ≡ 0 → ⊥) → states_weight r ≡ record { number = refusal (to_check S); weight = 0; spare = 0 }

abbrev pub ValueZeros : Type 0
ValueZeros = (S : Sheet) (u v : ℤ) (r : Result ℤ Refusal) → ValuePromise S u v r → (refusal (at_point S u v) ≡ 0 → ⊥) → states_value r ≡ record { number = refusal (at_point S u v); value = pos 0 }

abbrev pub BoundsZeros : Type 0
BoundsZeros = (S : Sheet) (mode j p q : ℕ) (r : Result Verdict Refusal) → BoundsPromise S mode j p q r → (refusal (in_cell S mode j p q) ≡ 0 → ⊥) →
    states_bounds r ≡ record { number = refusal (in_cell S mode j p q); lower = pos 0; upper = pos 0; bend = 0 }

-- ---- demand 3 of what `bounds` answers
-- the value at every point of the cell, edges included, lies between Q^d times each bound that the answer states
abbrev pub AnsweredContains : Type 0
AnsweredContains = (S : Sheet) (mode j p q : ℕ) (r : Result Verdict Refusal) → BoundsPromise S mode j p q r → refusal (in_cell S mode j p q) ≡ 0 → (M N : ℤ) (Q : ℕ) → InCell S j p q M N Q →
    ((pos (Q ^ S.d) *ℤ (states_bounds r).lower) ≤ℤ value_at S M N Q) × (value_at S M N Q ≤ℤ (pos (Q ^ S.d) *ℤ (states_bounds r).upper))

-- neither bound that it states overshoots the extreme corner value on its side by more than twice the bend that it states
abbrev pub AnsweredNear : Type 0
AnsweredNear = (S : Sheet) (mode j p q : ℕ) (r : Result Verdict Refusal) → BoundsPromise S mode j p q r → refusal (in_cell S mode j p q) ≡ 0 →
    NearCorners S j p q (states_bounds r).lower (states_bounds r).upper (2 * (states_bounds r).bend)

-- where the verdict that it carries is above every value in the cell is positive, and where it is below negative
abbrev pub AnsweredSigned : Type 0
AnsweredSigned = (S : Sheet) (mode j p q : ℕ) (r : Result Verdict Refusal) → BoundsPromise S mode j p q r → (M N : ℤ) (Q : ℕ) → 1 ≤ Q → InCell S j p q M N Q → (l u : ℤ) (b : ℕ) →
    (r ≡ Ok (Above l u b) → pos 0 <ℤ value_at S M N Q) × (r ≡ Ok (Below l u b) → value_at S M N Q <ℤ pos 0)

-- where it is open and the bend is 0, the cell meets the curve
abbrev pub AnsweredMeets : Type 0
AnsweredMeets = (S : Sheet) (mode j p q : ℕ) (r : Result Verdict Refusal) → BoundsPromise S mode j p q r → (l u : ℤ) → r ≡ Ok (Open l u 0) → MeetsCurve S j p q

-- ---- where `bounds` is not refused, `value` is refused at no corner of the cell
abbrev pub CornersAnswered : Type 0
CornersAnswered = (S : Sheet) (mode j p q : ℕ) → refusal (in_cell S mode j p q) ≡ 0 → AtCorners (U0 S j p) (V0 S j q) (half_side S j) (λ u v. refusal (at_point S u v) ≡ 0)
