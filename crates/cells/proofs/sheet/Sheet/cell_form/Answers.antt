-- `cells::sheet::Sheet::cell_form` meets its contract: the scaled coefficients, moved to the centre, each place times its power of the half-side.
use mathlib.Core.Path.{◌≡◌}
use lib.IntN.{pos}
use borrow.Author.Rules.{rules}
use mir.Syntax.{w32, w64}
use mir.Val.{to_z, of_z}
use Rattle.page.specs.Scaled.{half_side, U0, V0}
use Rattle.page.proofs.Cells.{column_small, row_small, half_side_small}
use Rattle.cells.specs.Sheet.{the_sheet}
use Rattle.cells.proofs.Widening.{scalable}
use Rattle.cells.proofs.Making.{centre_movable, place_fits, placed}
use Rattle.cells.proofs.sheet.Sheet.cell_form.Goals as goal

pub centre-u-requires : goal.centre-u-requires
centre-u-requires c =
    let S = the_sheet c.args.self in let r = c.requires.0.ranges in
    let x : to_z w32 (of_z w32 c.args.self.x) ≡ c.args.self.x = search rules in
    let half : to_z w64 (of_z w64 c.power-h.result) ≡ pos (half_side S c.args.cell.level) = search rules in
    rw (x, half) (r.corner_x, r.depth, column_small r c.requires.1, half_side_small r c.requires.1)

pub centre-v-requires : goal.centre-v-requires
centre-v-requires c =
    let S = the_sheet c.args.self in let r = c.requires.0.ranges in
    let y : to_z w32 (of_z w32 c.args.self.y) ≡ c.args.self.y = search rules in
    let half : to_z w64 (of_z w64 c.power-h.result) ≡ pos (half_side S c.args.cell.level) = search rules in
    rw (y, half) (r.corner_y, r.depth, row_small r c.requires.1, half_side_small r c.requires.1)

pub scaled_form-form-requires : goal.scaled_form-form-requires
scaled_form-form-requires c = scalable c.requires.0

pub move_table-requires : goal.move_table-requires
move_table-requires c =
    let S = the_sheet c.args.self in let a = c.args.cell in
    let u : to_z w64 (of_z w64 c.centre-u.result) ≡ U0 S a.level a.column = search rules in
    let v : to_z w64 (of_z w64 c.centre-v.result) ≡ V0 S a.level a.row = search rules in
    let form = c.scaled_form-form.ensures in rw (u, v) (form.long, centre_movable c.requires.0 form a.level a.column a.row c.requires.1)

pub scale-requires : goal.scale-requires
scale-requires c =
    let S = the_sheet c.args.self in let a = c.args.cell in
    let u : to_z w64 (of_z w64 c.centre-u.result) ≡ U0 S a.level a.column = search rules in
    let v : to_z w64 (of_z w64 c.centre-v.result) ≡ V0 S a.level a.row = search rules in
    place_fits c.requires.0 c.scaled_form-form.ensures a.level a.column a.row c.requires.1 (rw (u, v) at c.move_table.ensures)

pub returns : goal.returns
returns c =
    let S = the_sheet c.args.self in let a = c.args.cell in
    let u : to_z w64 (of_z w64 c.centre-u.result) ≡ U0 S a.level a.column = search rules in
    let v : to_z w64 (of_z w64 c.centre-v.result) ≡ V0 S a.level a.row = search rules in
    let form = c.scaled_form-form.ensures in placed c.requires.0 form a.level a.column a.row c.requires.1 (rw (u, v) at c.move_table.ensures) form.degree c.scale.ensures
