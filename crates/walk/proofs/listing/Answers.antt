-- `walk::listing` meets its contract.
use mathlib.Core.Path.{sym, ◌∙◌}
use native.Mathlib.Nat as Nat
use native.Mathlib.Omega.{arith}
use lib.ListN.{length}
use Rattle.std.proofs.Common.{rules}
use mir.Facts.{to_z-of_z}
use Rattle.page.specs.Sheet.{sheet_of}
use Rattle.page.specs.Refusals.{refusal, to_walk}
use Rattle.page.proofs.Rows.{walk_passed}
use Rattle.page.proofs.Refused.{passed_none}
use Rattle.walk.specs.Answers.{verdicts}
use Rattle.walk.proofs.Whole.{room, whole_form, ready, listing_whole, counted_whole}
use Rattle.walk.proofs.Promises.{listing_refused, listing_done}
use Rattle.walk.proofs.listing.Goals as goal

pub returns-in_err-check_walk : goal.returns-in_err-check_walk
returns-in_err-check_walk c =
    let a = c.args in let S = sheet_of a.d a.coefficients.now a.x a.y a.s a.k in
    let tried = rw (to_z-of_z c.ranges.x, to_z-of_z c.ranges.y) at c.check_walk.ensures in
    listing_refused S a.mode a.place.now (sym tried ∙ c.in_err-check_walk.was) c.from_residual.ensures.1

pub cell_form-form-requires : goal.cell_form-form-requires
cell_form-form-requires c =
    let a = c.args in let S = sheet_of a.d a.coefficients.now a.x a.y a.s a.k in
    let tried = rw (to_z-of_z c.ranges.x, to_z-of_z c.ranges.y) at c.check_walk.ensures in
    let none = passed_none tt (refusal (to_walk S a.mode (length a.place.now))) (sym tried ∙ c.in_ok-check_walk.was) in
    rw (to_z-of_z c.ranges.x, to_z-of_z c.ranges.y) ((walk_passed S a.mode _ none).0, record { level = omega arith; column = omega arith; row = omega arith })

pub examine-seen-requires : goal.examine-seen-requires
examine-seen-requires c =
    let a = c.args in let S = sheet_of a.d a.coefficients.now a.x a.y a.s a.k in
    let tried = rw (to_z-of_z c.ranges.x, to_z-of_z c.ranges.y) at c.check_walk.ensures in
    let none = passed_none tt (refusal (to_walk S a.mode (length a.place.now))) (sym tried ∙ c.in_ok-check_walk.was) in
    rw (Nat.zero-add, Nat.sub-zero) (ready S a.mode _ none (rw (to_z-of_z c.ranges.x, to_z-of_z c.ranges.y) at c.cell_form-form.ensures))

pub returns : goal.returns
returns c =
    let a = c.args in let S = sheet_of a.d a.coefficients.now a.x a.y a.s a.k in
    let tried = rw (to_z-of_z c.ranges.x, to_z-of_z c.ranges.y) at c.check_walk.ensures in
    let none = passed_none tt (refusal (to_walk S a.mode (length a.place.now))) (sym tried ∙ c.in_ok-check_walk.was) in
    let f = rw (to_z-of_z c.ranges.x, to_z-of_z c.ranges.y) at c.cell_form-form.ensures in
    let v = verdicts S a.mode in
    let w = c.examine-seen.ensures S (whole_form S a.mode _ none f) in
    let n = counted_whole v a.k c.examine-seen.result w.counted in let l = listing_whole v a.k a.place.now _ _ (room S a.mode _ none) w.leaves.1 in
    let done = listing_done S a.mode a.place.now none n l.0 l.1 in
    -- the place that was lent ends as the walk left it
    (done.0, done.1, let place = done.2 in search rules)
