-- `walk::refusals::check_walk` meets its contract: the rows 1 to 6, row 7, and row 9, which does not hold after them.
use mathlib.Core.Path.{◌≡◌, sym, ◌∙◌, ap}
use mathlib.Core.Bool.{cond}
use Prim.Native.Nat.{ℕ, ◌^◌}
use native.Mathlib.Omega.{arith}
use borrow.Author.Tests.{lt-ltb, le-ltb}
use lib.Dec.{ltb}
use Rattle.algebra.proofs.Power.{four_shifted}
use Rattle.page.specs.Sheet.{Sheet}
use Rattle.page.specs.Refusals.{refusal, to_walk}
use Rattle.page.specs.Steps.{mode_refusal}
use Rattle.page.specs.Numbers.{passed, by_number}
use Rattle.page.proofs.Rows.{walk_rows, mode_passed, no_row_9, rest}
use Rattle.cells.specs.Sheet.{the_sheet}
use Rattle.page.proofs.Refused.{refused_first, passed_none}
use Rattle.walk.proofs.refusals.check_walk.Goals as goal

pub returns-in_err-check_mode : goal.returns-in_err-check_mode
returns-in_err-check_mode c =
    let S = the_sheet c.args.sheet in
    refused_first tt tt _ (mode_refusal S c.args.mode) _ (sym c.check_mode.ensures ∙ c.in_err-check_mode.was) c.from_residual.ensures.1 ∙ ap passed (sym (walk_rows S c.args.mode c.args.entries))

-- after the rows 1 to 6
after : (S : Sheet) (mode n : ℕ) → mode_refusal S mode ≡ 0 → refusal (to_walk S mode n) ≡ cond (ltb n (4 ^ S.k)) 7 0
after S mode n e = walk_rows S mode n ∙ rest _ e ∙ ap (λ b. cond (ltb n (4 ^ S.k)) 7 (cond b 9 0)) (no_row_9 S mode (mode_passed S mode e).0.ranges.depth)

pub overflow_mul-sheet : goal.overflow_mul-sheet
overflow_mul-sheet c =
    let S = the_sheet c.args.sheet in
    let depth = (mode_passed S c.args.mode (passed_none tt (mode_refusal S c.args.mode) (sym c.check_mode.ensures ∙ c.in_ok-check_mode.was))).0.ranges.depth in omega arith

pub overflow_shl-sheet : goal.overflow_shl-sheet
overflow_shl-sheet c =
    let S = the_sheet c.args.sheet in
    let depth = (mode_passed S c.args.mode (passed_none tt (mode_refusal S c.args.mode) (sym c.check_mode.ensures ∙ c.in_ok-check_mode.was))).0.ranges.depth in omega arith

pub returns-then-entries-sheet : goal.returns-then-entries-sheet
unfolding by_number
returns-then-entries-sheet c =
    let S = the_sheet c.args.sheet in
    let none = passed_none tt (mode_refusal S c.args.mode) (sym c.check_mode.ensures ∙ c.in_ok-check_mode.was) in
    let cells = four_shifted S.k (mode_passed S c.args.mode none).0.ranges.depth in
    rw (after S c.args.mode c.args.entries none, lt-ltb c.args.entries (4 ^ S.k) (omega (arith, c.if-entries-sheet.true)))

pub returns : goal.returns
returns c =
    let S = the_sheet c.args.sheet in
    let none = passed_none tt (mode_refusal S c.args.mode) (sym c.check_mode.ensures ∙ c.in_ok-check_mode.was) in
    let cells = four_shifted S.k (mode_passed S c.args.mode none).0.ranges.depth in
    rw (after S c.args.mode c.args.entries none, le-ltb c.args.entries (4 ^ S.k) (omega (arith, c.if-entries-sheet.false)))
