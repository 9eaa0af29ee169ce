-- `weight::row_weight` meets its contract: the terms are added from the first on, beside a running power, all under the ceiling.
use mathlib.Core.Path.{◌≡◌, ◌∙◌, ap}
use mathlib.Core.List.{List}
use Prim.Native.Nat.{ℕ, ◌+◌, ◌-◌, ◌<◌}
use native.Mathlib.Omega.{arith}
use borrow.Author.Rules.{rules}
use lib.IntN.{pos, nat_abs}
use lib.ListN.{get_or, take, drop}
use mir.Syntax.{w32}
use mir.Val.{to_z, of_z}
use Rattle.std.proofs.lemmas.List.{get_or-take, get_or-drop}
use Rattle.weight.proofs.Series.{adding_start, adding_next, adding_end}
use Rattle.weight.proofs.row_weight.Goals as goal

slice_at : {A : Type 0} (xs : List A) (i m k : ℕ) (d : A) → k < m - i → get_or (take (m - i) (drop i xs)) k d ≡ get_or xs (i + k) d
slice_at xs i m k d h = get_or-take (m - i) (drop i xs) k d h ∙ get_or-drop i xs k d

pub loop-a-init : goal.loop-a-init
loop-a-init c = adding_start

pub loop-a-preserved : goal.loop-a-preserved
loop-a-preserved c =
    let items = take (c.args.first + c.args.n + 1 - c.args.first) (drop c.args.first c.args.coefficients.now) in
    let read : to_z w32 (of_z w32 (get_or items c.loop-a.a-index (pos 0))) ≡ get_or items c.loop-a.a-index (pos 0) = search rules in
    let e = slice_at c.args.coefficients.now c.args.first (c.args.first + c.args.n + 1) c.loop-a.a-index (pos 0) (omega arith) in
    let v : c.from.result ≡ nat_abs (get_or c.args.coefficients.now (c.args.first + c.loop-a.a-index) (pos 0)) = c.from.ensures ∙ c.unsigned_abs.ensures.value ∙ ap nat_abs (read ∙ e) in
    adding_next (omega arith) (omega arith) (omega arith) c.capped_product-term.ensures (omega arith) (omega arith) c.loop-a.invariant

pub returns : goal.returns
returns c = adding_end (omega arith) c.loop-a.invariant
