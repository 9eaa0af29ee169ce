-- `probe::refusals::check_cell` meets its contract: the rows 1 to 6, and then row 8 by its three tests.
use mathlib.Core.Path.{◌≡◌, sym, ◌∙◌, ap}
use Prim.Native.Nat.{ℕ, ◌*◌, ◌%◌, ◌^◌, ◌≤◌}
use native.Mathlib.Nat as Nat
use native.Mathlib.Omega.{arith}
use borrow.Author.Tests.{lt-ltb, le-ltb, le-leb, lt-leb}
use lib.Pow.{pow_mono}
use Rattle.page.specs.Steps.{mode_refusal}
use Rattle.page.specs.Numbers.{passed, by_number}
use Rattle.page.proofs.Rows.{cell_rows, mode_passed, rest}
use Rattle.cells.specs.Sheet.{the_sheet}
use Rattle.page.proofs.Refused.{refused_first, passed_none}
use Rattle.probe.proofs.refusals.check_cell.Goals as goal
use Rattle.probe.proofs.refusals.check_cell.Goals.{then-columns-cell-via-then-columns-cell, then-columns-cell-via-else-columns-cell+then-columns-cell-2}

pub returns-in_err-check_mode : goal.returns-in_err-check_mode
returns-in_err-check_mode c =
    let S = the_sheet c.args.sheet in let a = c.args.cell in
    refused_first tt tt _ (mode_refusal S c.args.mode) _ (sym c.check_mode.ensures ∙ c.in_err-check_mode.was) c.from_residual.ensures.1 ∙ ap passed (sym (cell_rows S c.args.mode a.level a.column a.row))

pub returns-then-sheet-cell : goal.returns-then-sheet-cell
unfolding by_number
returns-then-sheet-cell c =
    let S = the_sheet c.args.sheet in let a = c.args.cell in
    let none = passed_none tt (mode_refusal S c.args.mode) (sym c.check_mode.ensures ∙ c.in_ok-check_mode.was) in
    rw (cell_rows S c.args.mode a.level a.column a.row ∙ rest _ none, lt-ltb S.k a.level (omega arith))

pub overflow_shl-columns : goal.overflow_shl-columns
overflow_shl-columns c =
    let S = the_sheet c.args.sheet in
    let depth = (mode_passed S c.args.mode (passed_none tt (mode_refusal S c.args.mode) (sym c.check_mode.ensures ∙ c.in_ok-check_mode.was))).0.ranges.depth in omega arith

-- 2^j as the machine shifts it
shifted : (j : ℕ) → j ≤ 7 → 1 * 2 ^ j % 2 ^ 32 ≡ 2 ^ j
shifted j l = let p : 2 ^ j ≤ 2 ^ 7 = pow_mono l in ap (λ x. x % 2 ^ 32) (Nat.one-mul (2 ^ j)) ∙ Nat.mod-eq_of_lt (omega arith)

pub returns-then-columns-cell : goal.returns-then-columns-cell
unfolding by_number
returns-then-columns-cell c =
    let S = the_sheet c.args.sheet in let a = c.args.cell in
    let none = passed_none tt (mode_refusal S c.args.mode) (sym c.check_mode.ensures ∙ c.in_ok-check_mode.was) in
    let depth = (mode_passed S c.args.mode none).0.ranges.depth in let side = shifted a.level (omega arith) in
    rw (cell_rows S c.args.mode a.level a.column a.row ∙ rest _ none, le-ltb S.k a.level (omega arith)) (elim c.then-columns-cell.branch [
      | then-columns-cell-via-then-columns-cell w ↦ rw (le-leb (2 ^ a.level) a.column (rw side at w.if-columns-cell.true))
      | then-columns-cell-via-else-columns-cell+then-columns-cell-2 w ↦ rw (lt-leb (2 ^ a.level) a.column (rw side at w.if-columns-cell.false), le-leb (2 ^ a.level) a.row (rw side at w.if-columns-cell-2.true))
    ])

pub returns : goal.returns
returns c =
    let S = the_sheet c.args.sheet in let a = c.args.cell in
    let none = passed_none tt (mode_refusal S c.args.mode) (sym c.check_mode.ensures ∙ c.in_ok-check_mode.was) in
    let depth = (mode_passed S c.args.mode none).0.ranges.depth in let side = shifted a.level (omega arith) in
    rw (
      cell_rows S c.args.mode a.level a.column a.row ∙ rest _ none,
      le-ltb S.k a.level (omega arith),
      lt-leb (2 ^ a.level) a.column (rw side at c.if-columns-cell.false),
      lt-leb (2 ^ a.level) a.row (rw side at c.if-columns-cell-2.false),
    )
