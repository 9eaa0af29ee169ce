-- `cells::scale::wide_places` meets its contract: place by place, each from its own coefficient.
use mathlib.Core.Path.{◌≡◌}
use native.Mathlib.Omega.{arith}
use borrow.Author.Rules.{rules}
use mir.Syntax.{w64}
use mir.Val.{to_z, of_z}
use Rattle.tables.specs.Table.{at}
use Rattle.cells.proofs.Widening.{widening_start, widening_next, widening_end}
use Rattle.cells.proofs.scale.wide_places.Goals as goal

pub loop-at-init : goal.loop-at-init
loop-at-init c = widening_start

pub loop-at-preserved : goal.loop-at-preserved
loop-at-preserved c = let read : to_z w64 (of_z w64 c.from.result) ≡ at c.args.coefficients.now c.loop-at.at = search rules in widening_next (omega arith) read c.loop-at.invariant

pub returns : goal.returns
returns c = widening_end (omega arith) c.loop-at.invariant
