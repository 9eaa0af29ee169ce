-- `reading::opening::read_head` meets its contract, line after line.
use Rattle.std.proofs.Common.{◌≡◌, rules, Err}
use Rattle.reading.specs.Steps.{LineGood, HeadLine}
use Rattle.reading.proofs.Heads.{one, three, bad_1, bad_2, bad_3, bad_4, all_four}
use Rattle.reading.proofs.opening.read_head.Goals as goal

pub returns-in_err-d : goal.returns-in_err-d
returns-in_err-d c =
    let text = c.args.text.now in
    let told : c.from_residual.result ≡ Err c.in_err-d.field-0.0 = search rules in
    let bad : HeadLine text 0 1 68 1 one (Err c.in_err-d.field-0.0) = c.in_err-d.ensures in
    rw told (bad_1 text c.in_err-d.field-0.0 bad)

pub returns-in_err-b : goal.returns-in_err-b
returns-in_err-b c =
    let text = c.args.text.now in
    let told : c.from_residual-in_err-b.result ≡ Err c.in_err-b.field-0.0 = search rules in
    let degree : LineGood text 0 1 68 1 one c.in_ok-d.d = c.in_ok-d.ensures in
    let bad : HeadLine text c.in_ok-d.d.next 2 66 3 three (Err c.in_err-b.field-0.0) = c.in_err-b.ensures in
    rw told (bad_2 text degree c.in_err-b.field-0.0 bad)

pub returns-in_err-k : goal.returns-in_err-k
returns-in_err-k c =
    let text = c.args.text.now in
    let told : c.from_residual-in_err-k.result ≡ Err c.in_err-k.field-0.0 = search rules in
    let degree : LineGood text 0 1 68 1 one c.in_ok-d.d = c.in_ok-d.ensures in
    let square : LineGood text c.in_ok-d.d.next 2 66 3 three c.in_ok-b.b = c.in_ok-b.ensures in
    let bad : HeadLine text c.in_ok-b.b.next 3 75 1 one (Err c.in_err-k.field-0.0) = c.in_err-k.ensures in
    rw told (bad_3 text degree square c.in_err-k.field-0.0 bad)

pub returns-in_err-m : goal.returns-in_err-m
returns-in_err-m c =
    let text = c.args.text.now in
    let told : c.from_residual-in_err-m.result ≡ Err c.in_err-m.field-0.0 = search rules in
    let degree : LineGood text 0 1 68 1 one c.in_ok-d.d = c.in_ok-d.ensures in
    let square : LineGood text c.in_ok-d.d.next 2 66 3 three c.in_ok-b.b = c.in_ok-b.ensures in
    let depth : LineGood text c.in_ok-b.b.next 3 75 1 one c.in_ok-k.k = c.in_ok-k.ensures in
    let bad : HeadLine text c.in_ok-k.k.next 4 77 1 one (Err c.in_err-m.field-0.0) = c.in_err-m.ensures in
    rw told (bad_4 text degree square depth c.in_err-m.field-0.0 bad)

pub returns : goal.returns
returns c =
    let text = c.args.text.now in
    let degree : LineGood text 0 1 68 1 one c.in_ok-d.d = c.in_ok-d.ensures in
    let square : LineGood text c.in_ok-d.d.next 2 66 3 three c.in_ok-b.b = c.in_ok-b.ensures in
    let depth : LineGood text c.in_ok-b.b.next 3 75 1 one c.in_ok-k.k = c.in_ok-k.ensures in
    let mode : LineGood text c.in_ok-k.k.next 4 77 1 one c.in_ok-m.m = c.in_ok-m.ensures in
    all_four text degree square depth mode c.head_of.ensures
