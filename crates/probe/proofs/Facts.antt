-- What the promises say of an answer: the table's number, zeros beside a refusal, and demand 3.
use mathlib.Core.Path.{◌≡◌, refl, sym, ◌∙◌}
use mathlib.Core.List.{[], ◌∷◌}
use Prim.Native.Nat.{ℕ, zero, suc, ◌*◌, ◌≤◌}
use native.Mathlib.Nat as Nat
use native.Mathlib.Omega.{arith}
use lib.IntN.{ℤ, pos, ◌+ℤ◌, ◌-ℤ◌, ◌*ℤ◌, nat_abs}
use Rattle.algebra.proofs.Absolute.{nat_abs_neg_ℤ}
use Rattle.algebra.proofs.Ring.{ring, ◌⊕◌, ◌⊖◌, ◌⊗◌, ⊝◌, #◌, ◌≐◌}
use Rattle.std.specs.Prelude.{Result, Ok, Err}
use Rattle.verdicts.specs.declared.Verdict.{Verdict}
use Rattle.verdicts.specs.declared.Verdict.TheVariants.{Above, Below, Open}
use Rattle.page.specs.Sheet.{Sheet, mode_of}
use Rattle.page.specs.Scaled.{half_side, U0, V0, IsCell, InCell}
use Rattle.page.specs.Bounds.{lower, upper, bend, verdict}
use Rattle.page.specs.Weight.{Accepted}
use Rattle.page.specs.Refusals.{refusal, unless, to_check, at_point, in_cell}
use Rattle.page.proofs.Rows.{point_rows, rest, cell_passed, unless_none, unless_refused, unless_number}
use Rattle.page.proofs.Facts.{accepted_by_check}
use Rattle.page.proofs.Edges.{square_is_cell}
use Rattle.page.proofs.Demand3.{contained, no_overshoot, one_sign, open_meets}
use Rattle.page.proofs.Raster.{encloses}
use Rattle.page.specs.declared.Refusal.{Refusal}
use Rattle.page.specs.Numbers.{by_number}
use Rattle.probe.specs.Answers.{Weighed, weighed, Evaluated, evaluated, bounded, Measured, states_bounds, measured}
use Rattle.probe.specs.Promises.{BoundsPromise}
use Rattle.probe.specs.Facts.{CheckNumber, ValueNumber, BoundsNumber, CheckZeros, ValueZeros, BoundsZeros, AnsweredContains, AnsweredNear, AnsweredSigned, AnsweredMeets, CornersAnswered}

-- ---- the number
pub check_number : CheckNumber
unfolding weighed
check_number S r h = unless_number (λ (x : Weighed). x.number) (refusal (to_check S)) (λ n. refl) refl h.1

pub value_number : ValueNumber
unfolding evaluated
value_number S u v r h = unless_number (λ (x : Evaluated). x.number) (refusal (at_point S u v)) (λ n. refl) refl h.1

pub bounds_number : BoundsNumber
unfolding measured
bounds_number S mode j p q r h = unless_number (λ (x : Measured). x.number) (refusal (in_cell S mode j p q)) (λ n. refl) refl h.1

-- ---- zeros beside it
pub check_zeros : CheckZeros
unfolding weighed
check_zeros S r h n = h.1 ∙ sym (unless_refused _ _ _ n)

pub value_zeros : ValueZeros
unfolding evaluated
value_zeros S u v r h n = h.1 ∙ sym (unless_refused _ _ _ n)

pub bounds_zeros : BoundsZeros
unfolding measured
bounds_zeros S mode j p q r h n = h.1 ∙ sym (unless_refused _ _ _ n)

-- ---- demand 3
-- where nothing is refused the answer states the page's bounds and bend
module _ (S : Sheet) (mode j p q : ℕ) (r : Result Verdict Refusal) (h : BoundsPromise S mode j p q r) where
  stated : refusal (in_cell S mode j p q) ≡ 0 → states_bounds r ≡ record { number = 0; lower = lower S (mode_of mode) j p q; upper = upper S (mode_of mode) j p q; bend = bend S j p q }
  unfolding measured
  stated e = h.1 ∙ sym (unless_none _ _ _ e)

  -- and where it carries a verdict it is the page's
  carried : (v : Verdict) → r ≡ Ok v → verdict S (mode_of mode) j p q ≡ v
  unfolding bounded
  carried v e = by (refusal (in_cell S mode j p q)) (sym h.0 ∙ e)
    where
      by : (m : ℕ) {w : Verdict} → unless m (λ n. Err (by_number n)) (Ok w) ≡ Ok v → w ≡ v
      by zero e = cc
      by (suc m) e = let z : ◌≡◌ {A = ℕ} 0 1 = cc in absurd (omega arith)

pub answered_contains : AnsweredContains
answered_contains S mode j p q r h e M N Q c = rw (stated S mode j p q r h e) (contained S (mode_of mode) j p q M N Q c)

pub answered_near : AnsweredNear
answered_near S mode j p q r h e = rw (stated S mode j p q r h e) (no_overshoot S (mode_of mode) j p q)

pub answered_signed : AnsweredSigned
answered_signed S mode j p q r h M N Q o c l u b =
    let s = one_sign S (mode_of mode) j p q M N Q o c l u b in (λ e. s.0 (carried S mode j p q r h (Above l u b) e), λ e. s.1 (carried S mode j p q r h (Below l u b) e))

pub answered_meets : AnsweredMeets
answered_meets S mode j p q r h l u e = open_meets S (mode_of mode) j p q l u (carried S mode j p q r h (Open l u 0) e)

-- ---- corners
-- `value` is refused at no whole-number point of a cell of an accepted sheet
point_answered : (S : Sheet) (j p q : ℕ) (u v : ℤ) → Accepted S → IsCell S.k j p q → InCell S j p q u v 1 → refusal (at_point S u v) ≡ 0
point_answered S j p q u v a k c =
    let s = rw (Nat.sub-zero, Nat.div-eq_of_lt k.column, Nat.div-eq_of_lt k.row) at (encloses S 0 j p q (omega arith) k.level u v 1 c) in
    point_rows S u v ∙ rest _ ((accepted_by_check S).0 a) ∙ rw ((square_is_cell S u v).1 s)

-- a corner is as far from the centre as the half-side
off_low : (u : ℤ) (h : ℕ) → nat_abs (u -ℤ pos h -ℤ pos 1 *ℤ u) ≤ 1 * h
off_low u h = let n = nat_abs_neg_ℤ (pos h) in rw (ring (u ∷ pos h ∷ []) (λ u h. u ⊖ h ⊖ # 1 ⊗ u ≐ ⊝ h) tt) (omega arith)

off_high : (u : ℤ) (h : ℕ) → nat_abs (u +ℤ pos h -ℤ pos 1 *ℤ u) ≤ 1 * h
off_high u h = rw (ring (u ∷ pos h ∷ []) (λ u h. u ⊕ h ⊖ # 1 ⊗ u ≐ h) tt) (omega arith)

pub corners_answered : CornersAnswered
corners_answered S mode j p q e =
    let H = half_side S j in let l = off_low (U0 S j p) H in let r = off_high (U0 S j p) H in let b = off_low (V0 S j q) H in let t = off_high (V0 S j q) H in
    (at _ _ l b, at _ _ r b, at _ _ l t, at _ _ r t)
  where
    at : (u v : ℤ) → nat_abs (u -ℤ pos 1 *ℤ U0 S j p) ≤ 1 * half_side S j → nat_abs (v -ℤ pos 1 *ℤ V0 S j q) ≤ 1 * half_side S j → refusal (at_point S u v) ≡ 0
    at u v a b = let k = cell_passed S mode j p q e in point_answered S j p q u v k.0 k.2 (record { across = a; along = b })
