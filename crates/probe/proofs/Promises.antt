-- The promises of the calls: what an answer states is the page's number and values, and no second outcome satisfies a promise.
use mathlib.Core.Path.{◌≡◌, refl, sym, ◌∙◌, ap}
use mathlib.Core.Bool.{Bool, true, false, cond}
use Prim.Native.Nat.{ℕ}
use lib.IntN.{ℤ, pos}
use lib.Signed.{lt_z}
use Rattle.std.specs.Prelude.{Result, Ok}
use Rattle.verdicts.specs.declared.Verdict.{Verdict}
use Rattle.verdicts.specs.declared.Verdict.TheVariants.{Above, Below, Open}
use Rattle.verdicts.specs.Judging.{judged}
use Rattle.probe.specs.declared.Checked.{Checked}
use Rattle.page.specs.declared.Refusal.{Refusal}
use Rattle.page.specs.Sheet.{Sheet, mode_of}
use Rattle.page.specs.Bounds.{lower, upper, bend}
use Rattle.page.specs.Refusals.{refusal, unless, to_check, at_point, in_cell}
use Rattle.page.proofs.Rows.{unless_ap}
use Rattle.page.proofs.Numbers.{table_named, unless_named}
use Rattle.probe.specs.Answers.{checked, states_weight, weighed, valued, states_value, evaluated, bounded, states_bounds, measured}
use Rattle.probe.specs.Promises.{CheckPromise, ValuePromise, BoundsPromise, OneCheck, OneValue, OneBounds}

-- ---- what each call's answer states
pub check_states : (S : Sheet) → states_weight (checked S) ≡ weighed S
unfolding checked weighed
check_states S = unless_ap states_weight (refusal (to_check S)) _ _ ∙ unless_named _ _ (refusal (to_check S)) (table_named (to_check S))

pub value_states : (S : Sheet) (u v : ℤ) → states_value (valued S u v) ≡ evaluated S u v
unfolding valued evaluated
value_states S u v = unless_ap states_value (refusal (at_point S u v)) _ _ ∙ unless_named _ _ (refusal (at_point S u v)) (table_named (at_point S u v))

-- a verdict states both bounds and the bend, whichever it is
verdict_states : (l u : ℤ) (b : ℕ) → states_bounds (Ok (judged l u b)) ≡ record { number = 0; lower = l; upper = u; bend = b }
unfolding judged
verdict_states l u b = go (lt_z (pos 0) l) (lt_z u (pos 0))
  where
    go : (s t : Bool) → states_bounds (Ok (cond s (Above l u b) (cond t (Below l u b) (Open l u b)))) ≡ record { number = 0; lower = l; upper = u; bend = b }
    go true t = refl
    go false true = refl
    go false false = refl

pub bounds_states : (S : Sheet) (mode j p q : ℕ) → states_bounds (bounded S mode j p q) ≡ measured S mode j p q
unfolding bounded measured
bounds_states S mode j p q =
    unless_ap states_bounds (refusal (in_cell S mode j p q)) _ _ ∙ unless_named _ _ (refusal (in_cell S mode j p q)) (table_named (in_cell S mode j p q))
    ∙ ap (λ x. unless (refusal (in_cell S mode j p q)) (λ n. record { number = n; lower = pos 0; upper = pos 0; bend = 0 }) x) (verdict_states (lower S (mode_of mode) j p q) (upper S (mode_of mode) j p q) (bend S j p q))

-- ---- each promise is kept by the definition's answer
pub check_kept : (S : Sheet) {r : Result Checked Refusal} → r ≡ checked S → CheckPromise S r
check_kept S e = (e, ap states_weight e ∙ check_states S)

pub value_kept : (S : Sheet) (u v : ℤ) {r : Result ℤ Refusal} → r ≡ valued S u v → ValuePromise S u v r
value_kept S u v e = (e, ap states_value e ∙ value_states S u v)

pub bounds_kept : (S : Sheet) (mode j p q : ℕ) {r : Result Verdict Refusal} → r ≡ bounded S mode j p q → BoundsPromise S mode j p q r
bounds_kept S mode j p q e = (e, ap states_bounds e ∙ bounds_states S mode j p q)

-- ---- and by nothing else
pub one_check : OneCheck
one_check S r t p q = p.0 ∙ sym q.0

pub one_value : OneValue
one_value S u v r t p q = p.0 ∙ sym q.0

pub one_bounds : OneBounds
one_bounds S mode j p q r t x y = x.0 ∙ sym y.0
