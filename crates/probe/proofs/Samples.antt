-- The answers at the page's numbers, and what their cases state.
use mathlib.Core.Path.{◌≡◌, refl}
use lib.IntN.{pos, negsuc, pow, one}
use Rattle.algebra.specs.Sum.{sum, sumℕ, run, span, ◌⋯◌}
use Rattle.algebra.specs.Binomial.{choose}
use Rattle.algebra.specs.MinMax.{minℤ, maxℤ}
use Rattle.algebra.specs.Triangle.{row_start}
use Rattle.algebra.specs.Digits.{digits}
use Rattle.verdicts.specs.Judging.{judged}
use Rattle.page.specs.Scaled.{F}
use Rattle.page.specs.LocalForm.{G}
use Rattle.page.specs.Bounds.{lower, upper, bend}
use Rattle.page.specs.Weight.{weight}
use Rattle.page.specs.Refusals.{table, first}
use Rattle.page.specs.CheckedSheets.{P1, P9, P10}
use Rattle.std.specs.Prelude.{Ok, Err}
use Rattle.page.specs.declared.Refusal.TheVariants.{Weight}
use Rattle.page.specs.Numbers.{by_number}
use Rattle.probe.specs.Answers.{checked, states_weight, valued, states_value, bounded, states_bounds}

answers : (checked P1 ≡ Ok (record { weight = 144; spare = 54 })) × (checked (P10 64) ≡ Err Weight)
    × (states_weight (checked (P10 64)) ≡ record { number = 6; weight = 0; spare = 0 })
    × (states_bounds (bounded P9 1 0 0 0) ≡ record { number = 0; lower = negsuc 1; upper = pos 4; bend = 1 })
    × (states_bounds (bounded P9 2 0 0 0) ≡ record { number = 5; lower = pos 0; upper = pos 0; bend = 0 })
    × (states_value (valued P1 (pos 9) (pos 0)) ≡ record { number = 8; value = pos 0 })
unfolding pow one sum sumℕ run span ◌⋯◌ choose minℤ maxℤ row_start judged G lower upper bend F digits weight table first by_number checked valued bounded
answers = (refl, refl, refl, refl, refl, refl)
