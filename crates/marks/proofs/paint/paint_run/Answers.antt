-- `marks::paint::paint_run` meets its contract.
use native.Mathlib.Omega.{arith}
use Rattle.std.proofs.lemmas.List.{length-take, length-drop}
use Rattle.marks.proofs.Runs.{run_filled}
use Rattle.marks.proofs.paint.paint_run.Goals as goal

pub returns : goal.returns
returns c = run_filled c.args.at c.args.count c.args.colour c.args.place.now c.fill.new.self (omega arith) (omega arith) (c.fill.ensures.after (λ y e. e)) (simp (length-take, length-drop) (omega arith))
