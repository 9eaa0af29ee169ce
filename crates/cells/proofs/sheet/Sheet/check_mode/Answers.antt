-- `cells::sheet::Sheet::check_mode` meets its contract: the rows 1 to 6, one after the other.
use mathlib.Core.Path.{◌≡◌, sym, ◌∙◌, ap}
use mathlib.Core.Bool.{cond}
use Prim.Native.Nat.{ℕ, ◌^◌}
use native.Mathlib.Omega.{arith}
use borrow.Author.Tests.{lt-ltb, le-ltb}
use lib.Dec.{leb, ltb}
use Rattle.page.specs.Sheet.{Sheet}
use Rattle.page.specs.Weight.{weight}
use Rattle.page.specs.Steps.{range_refusal, mode_refusal}
use Rattle.page.specs.Numbers.{passed, by_number}
use Rattle.page.proofs.Rows.{mode_rows, range_passed, heavy, not_heavy, rest}
use Rattle.cells.specs.Sheet.{the_sheet}
use Rattle.page.proofs.Refused.{refused_first, passed_none}
use Rattle.cells.proofs.sheet.Sheet.check_mode.Goals as goal

pub returns-in_err-check_ranges : goal.returns-in_err-check_ranges
returns-in_err-check_ranges c =
    let S = the_sheet c.args.self in
    refused_first tt tt _ (range_refusal S) _ (sym c.check_ranges.ensures ∙ c.in_err-check_ranges.was) c.from_residual.ensures.1 ∙ ap passed (sym (mode_rows S c.args.mode))

-- after the rows 1 to 4
after : (S : Sheet) (mode : ℕ) → range_refusal S ≡ 0 → mode_refusal S mode ≡ cond (ltb 1 mode) 5 (cond (leb (2 ^ 62) (weight S)) 6 0)
after S mode e = mode_rows S mode ∙ rest _ e

pub returns-then-mode-gt1 : goal.returns-then-mode-gt1
unfolding by_number
returns-then-mode-gt1 c =
    let S = the_sheet c.args.self in
    let none = passed_none tt (range_refusal S) (sym c.check_ranges.ensures ∙ c.in_ok-check_ranges.was) in
    rw (after S c.args.mode none, lt-ltb 1 c.args.mode (omega arith))

pub weight-requires : goal.weight-requires
weight-requires c = let S = the_sheet c.args.self in range_passed S (passed_none tt (range_refusal S) (sym c.check_ranges.ensures ∙ c.in_ok-check_ranges.was))

pub returns-then-weight-eq-CEILING : goal.returns-then-weight-eq-CEILING
unfolding by_number
returns-then-weight-eq-CEILING c =
    let S = the_sheet c.args.self in
    let none = passed_none tt (range_refusal S) (sym c.check_ranges.ensures ∙ c.in_ok-check_ranges.was) in
    rw (after S c.args.mode none, le-ltb 1 c.args.mode (omega arith), heavy S c.weight.ensures c.if-weight-eq-CEILING.true)

pub returns : goal.returns
returns c =
    let S = the_sheet c.args.self in
    let none = passed_none tt (range_refusal S) (sym c.check_ranges.ensures ∙ c.in_ok-check_ranges.was) in
    rw (after S c.args.mode none, le-ltb 1 c.args.mode (omega arith), not_heavy S c.weight.ensures c.if-weight-eq-CEILING.false)
