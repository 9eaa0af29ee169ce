-- The promises of `check`, `value` and `bounds`, as statements about an outcome r: the contracts of src/lib.rt cite them.
use Rattle.std.specs.Prelude.{◌≡◌, ℕ, ℤ, Result}
use Rattle.probe.specs.declared.Checked.{Checked}
use Rattle.verdicts.specs.declared.Verdict.{Verdict}
use Rattle.page.specs.declared.Refusal.{Refusal}
use Rattle.page.specs.Sheet.{Sheet}
use Rattle.probe.specs.Answers.{checked, states_weight, weighed, valued, states_value, evaluated, bounded, states_bounds, measured}

-- the answer is that of the definition, and its case states the page's number and values
abbrev pub CheckPromise : Sheet → Result Checked Refusal → Type 0
CheckPromise S r = (r ≡ checked S) × (states_weight r ≡ weighed S)

abbrev pub ValuePromise : Sheet → ℤ → ℤ → Result ℤ Refusal → Type 0
ValuePromise S u v r = (r ≡ valued S u v) × (states_value r ≡ evaluated S u v)

abbrev pub BoundsPromise : Sheet → ℕ → ℕ → ℕ → ℕ → Result Verdict Refusal → Type 0
BoundsPromise S mode j p q r = (r ≡ bounded S mode j p q) × (states_bounds r ≡ measured S mode j p q)

-- ---- no second outcome satisfies a promise
abbrev pub OneCheck : Type 0
OneCheck = (S : Sheet) (r t : Result Checked Refusal) → CheckPromise S r → CheckPromise S t → r ≡ t

abbrev pub OneValue : Type 0
OneValue = (S : Sheet) (u v : ℤ) (r t : Result ℤ Refusal) → ValuePromise S u v r → ValuePromise S u v t → r ≡ t

abbrev pub OneBounds : Type 0
OneBounds = (S : Sheet) (mode j p q : ℕ) (r t : Result Verdict Refusal) → BoundsPromise S mode j p q r → BoundsPromise S mode j p q t → r ≡ t
