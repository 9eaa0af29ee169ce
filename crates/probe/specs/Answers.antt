-- The answers of the calls: the values, or a refusal. What each states is the values, or the refusal's number with zeros.
use Rattle.std.specs.Prelude.{ℕ, ℤ, pos, Result, Ok, Err}
use Rattle.verdicts.specs.declared.Verdict.{Verdict}
use Rattle.verdicts.specs.declared.Verdict.TheVariants.{Above, Below, Open}
use Rattle.probe.specs.declared.Checked.{Checked}
use Rattle.page.specs.Sheet.{Sheet, mode_of}
use Rattle.page.specs.Scaled.{F}
use Rattle.page.specs.Bounds.{lower, upper, bend, verdict}
use Rattle.page.specs.Weight.{weight, spare}
use Rattle.page.specs.Refusals.{to_check, at_point, in_cell, refusal, unless}
use Rattle.page.specs.declared.Refusal.{Refusal}
use Rattle.page.specs.Numbers.{number_of, answer}

-- ---- check a sheet
unfoldable pub checked : Sheet → Result Checked Refusal
checked S = answer (refusal (to_check S)) (record { weight = weight S; spare = spare S })

-- the number, the weight and the spare places that each case states, and those of the page
pub record Weighed : Type 0 where
  pub number : ℕ
  pub weight : ℕ
  pub spare : ℕ

abbrev pub states_weight : Result Checked Refusal → Weighed
states_weight (Ok c) = record { number = 0; weight = c.weight; spare = c.spare }
states_weight (Err e) = record { number = number_of e; weight = 0; spare = 0 }

unfoldable pub weighed : Sheet → Weighed
weighed S = unless (refusal (to_check S)) (λ n. record { number = n; weight = 0; spare = 0 }) (record { number = 0; weight = weight S; spare = spare S })

-- ---- value F at a whole-number point (U, V) of the closed square
unfoldable pub valued : Sheet → ℤ → ℤ → Result ℤ Refusal
valued S u v = answer (refusal (at_point S u v)) (F S u v)

-- the number and the value that each case states, and those of the page
pub record Evaluated : Type 0 where
  pub number : ℕ
  pub value : ℤ

abbrev pub states_value : Result ℤ Refusal → Evaluated
states_value (Ok z) = record { number = 0; value = z }
states_value (Err e) = record { number = number_of e; value = pos 0 }

unfoldable pub evaluated : Sheet → ℤ → ℤ → Evaluated
evaluated S u v = unless (refusal (at_point S u v)) (λ n. record { number = n; value = pos 0 }) (record { number = 0; value = F S u v })

-- ---- bounds and bend of a cell
unfoldable pub bounded : Sheet → ℕ → ℕ → ℕ → ℕ → Result Verdict Refusal
bounded S mode j p q = answer (refusal (in_cell S mode j p q)) (verdict S (mode_of mode) j p q)

-- the number, the two bounds and the bend that each case states, and those of the page
pub record Measured : Type 0 where
  pub number : ℕ
  pub lower : ℤ
  pub upper : ℤ
  pub bend : ℕ

abbrev pub states_bounds : Result Verdict Refusal → Measured
states_bounds (Ok (Above l u b)) = record { number = 0; lower = l; upper = u; bend = b }
states_bounds (Ok (Below l u b)) = record { number = 0; lower = l; upper = u; bend = b }
states_bounds (Ok (Open l u b)) = record { number = 0; lower = l; upper = u; bend = b }
states_bounds (Err e) = record { number = number_of e; lower = pos 0; upper = pos 0; bend = 0 }

unfoldable pub measured : Sheet → ℕ → ℕ → ℕ → ℕ → Measured
measured S mode j p q =
    unless (refusal (in_cell S mode j p q)) (λ n. record { number = n; lower = pos 0; upper = pos 0; bend = 0 })
    (record { number = 0; lower = lower S (mode_of mode) j p q; upper = upper S (mode_of mode) j p q; bend = bend S j p q })
