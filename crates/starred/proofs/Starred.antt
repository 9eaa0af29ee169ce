-- The starred table holds: computed from the definitions.
use mathlib.Core.Path.{refl}
use lib.IntN.{pow, one}
use Rattle.algebra.specs.Sum.{sum, sumℕ, run, span, ◌⋯◌}
use Rattle.algebra.specs.Binomial.{choose}
use Rattle.algebra.specs.MinMax.{minℤ, maxℤ}
use Rattle.algebra.specs.Triangle.{row_start}
use Rattle.algebra.specs.Digits.{digits}
use Rattle.verdicts.specs.Judging.{judged}
use Rattle.page.specs.Scaled.{F}
use Rattle.page.specs.LocalForm.{G}
use Rattle.page.specs.Bounds.{lower, upper, bend}
use Rattle.verdicts.specs.Walking.{colour, raster, visited, coloured}
use Rattle.page.specs.Weight.{weight}
use Rattle.page.specs.Refusals.{table, first}
use Rattle.page.specs.Numbers.{by_number}
use Rattle.probe.specs.Answers.{checked, valued, bounded}
use Rattle.starred.specs.Starred.{holds, starred, all_hold, StarredHold}

pub starred_hold : StarredHold
unfolding pow one sum sumℕ run span ◌⋯◌ choose minℤ maxℤ row_start digits judged F G lower upper bend colour raster visited coloured weight table first by_number checked valued bounded holds starred all_hold
starred_hold = refl
