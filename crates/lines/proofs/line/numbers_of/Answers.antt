-- `lines::line::numbers_of` meets its contract: the letter, the count, and then field by field.
use mathlib.Core.Path.{◌≡◌, sym, ◌∙◌, ap, refl}
use native.Mathlib.Omega.{arith}
use borrow.Author.Rules.{rules}
use lib.Seq.{length-take-le}
use mir.Syntax.{w32}
use mir.Val.{to_z, of_z}
use Rattle.std.specs.Prelude.{Ok}
use Rattle.lines.proofs.Ending.{letter_stands}
use Rattle.lines.proofs.Counting.{reading_start, reading_next, line_fault, line_read, opened_faulty, opened_right, among, next_stands, next_is}
use Rattle.lines.proofs.line.numbers_of.Goals as goal

pub slice_bounds-letter_alone-end : goal.slice_bounds-letter_alone-end
slice_bounds-letter_alone-end c = sym (length-take-le _ _ (letter_stands c.part-parted.ensures).within)

pub returns-in-Some : goal.returns-in-Some
returns-in-Some c = opened_faulty _ c.part-parted.ensures _ _ _ c.letter_alone-right.ensures c.requires.0 c.requires.1 (sym c.opening.ensures ∙ c.in-Some.is) refl

pub loop-i-init : goal.loop-i-init
loop-i-init c =
    let (letter, count) = opened_right _ c.part-parted.ensures _ _ _ c.letter_alone-right.ensures c.requires.0 c.requires.1 (sym c.opening.ensures ∙ c.in_default.is) in
    (letter, reading_start _ _ count)

pub overflow_add-ends : goal.overflow_add-ends
overflow_add-ends c = let s = next_stands c.args.signs c.part-parted.ensures c.loop-i.invariant.1 c.requires.0 c.requires.1 c.loop-i-test.true in omega arith

pub slice_bounds-number-count : goal.slice_bounds-number-count
slice_bounds-number-count c = let s = next_stands c.args.signs c.part-parted.ensures c.loop-i.invariant.1 c.requires.0 c.requires.1 c.loop-i-test.true in omega arith

pub slice_bounds-number-start : goal.slice_bounds-number-start
slice_bounds-number-start c = let s = next_stands c.args.signs c.part-parted.ensures c.loop-i.invariant.1 c.requires.0 c.requires.1 c.loop-i-test.true in omega arith

pub slice_bounds-number-end : goal.slice_bounds-number-end
slice_bounds-number-end c = let s = next_stands c.args.signs c.part-parted.ensures c.loop-i.invariant.1 c.requires.0 c.requires.1 c.loop-i-test.true in omega arith

pub returns-in-Err : goal.returns-in-Err
returns-in-Err c =
    let is = next_is c.args.signs c.part-parted.ensures c.loop-i.invariant.1 c.requires.0 c.requires.1 c.loop-i-test.true in
    rw c.field_fault.ensures (line_fault _ _ _ _ c.loop-i.invariant.0 c.loop-i.invariant.1 (among c.args.signs c.part-parted.ensures c.loop-i.invariant.1 c.requires.0 c.requires.1 c.loop-i-test.true) (is ∙ sym c.number.ensures ∙ c.in-Err.is))

pub loop-i-preserved : goal.loop-i-preserved
loop-i-preserved c =
    let is = next_is c.args.signs c.part-parted.ensures c.loop-i.invariant.1 c.requires.0 c.requires.1 c.loop-i-test.true in
    let read_back : to_z w32 (of_z w32 c.in-Ok.value) ≡ c.in-Ok.value = search rules in
    let next = reading_next _ _ c.loop-i.invariant.1 (among c.args.signs c.part-parted.ensures c.loop-i.invariant.1 c.requires.0 c.requires.1 c.loop-i-test.true) (is ∙ sym c.number.ensures ∙ c.in-Ok.is ∙ ap Ok (sym read_back)) (omega (arith, c.requires)) in
    (c.loop-i.invariant.0, next)

pub returns : goal.returns
returns c = line_read _ _ _ _ c.loop-i.invariant.0 c.loop-i.invariant.1 (omega arith) (omega arith)
