-- `printing::rows::put_digit` meets its contract.
use mathlib.Core.Path.{◌≡◌, sym, ◌∙◌}
use mathlib.Core.Bool.{true, false}
use native.Mathlib.Omega.{arith}
use Rattle.pbm.specs.Writing.{ends_line}
use Rattle.printing.proofs.Columns.{ended_length, put_ended, put_plain}
use Rattle.printing.proofs.rows.put_digit.Goals as goal

pub put_byte-requires : goal.put_byte-requires
put_byte-requires c =
    let follows : let a = c.args in ends_line a.side a.p ≡ true = sym c.ends_line.ensures ∙ c.if-ends_line.true in
    omega (arith, c.put_byte-end.ensures.put.ends, c.requires.2, ended_length c.args.side c.args.byte c.args.p follows)

pub returns-then-ends_line : goal.returns-then-ends_line
returns-then-ends_line c =
    let follows : let a = c.args in ends_line a.side a.p ≡ true = sym c.ends_line.ensures ∙ c.if-ends_line.true in
    let a = c.args in
    put_ended a.side a.byte a.p c.digit.ensures c.put_byte-end.ensures follows c.put_byte.ensures

pub returns : goal.returns
returns c =
    let follows-not : let a = c.args in ends_line a.side a.p ≡ false = sym c.ends_line.ensures ∙ c.if-ends_line.false in
    let a = c.args in
    put_plain a.side a.byte a.p c.digit.ensures c.put_byte-end.ensures follows-not
