use mathlib.Core.Path.{◌≡◌}
use mathlib.Core.Bool.{true}
use mathlib.Core.List.{[]}
use lib.ListN.{get_or, take}
use Rattle.page.specs.SheetLine.{fields, is_letter}
use Rattle.lines.proofs.Ending.{numbers_in}
use Rattle.lines.proofs.Counting.{Reading}
use Rattle.lines.proofs.line.numbers_of.Given as goal

abbrev pub invariant-loop-i : goal.invariant-loop-i
invariant-loop-i l = (is_letter l.letter (get_or (fields l.line) 0 []) ≡ true) × Reading (take l.count l.signs) (numbers_in l.line) l.values l.i
