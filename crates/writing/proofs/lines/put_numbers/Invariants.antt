use mathlib.Core.List.{◌∷◌}
use Prim.Native.Nat.{◌+◌, ◌*◌, ◌≤◌}
use Rattle.page.specs.ListingText.{decimal}
use Rattle.writing.proofs.Puts.{Putting}
use Rattle.writing.proofs.lines.put_numbers.Given as goal

abbrev pub invariant-loop-n : goal.invariant-loop-n
invariant-loop-n l = Putting (λ n. 9 ∷ decimal n) l.numbers l.at l.initial.place l.place l.end l.n-index × (l.end ≤ l.at + 11 * l.n-index)
