-- `reading::read` keeps its promise.
use Rattle.std.proofs.Common.{◌≡◌, arith, rules, Ok, Err}
use Rattle.reading.specs.Steps.{HeadGood, HeadRead, TermsRead}
use Rattle.reading.proofs.Tables.{no_terms}
use Rattle.reading.proofs.Promises.{too_long, bad_text, bad_term, well_read}
use Rattle.reading.proofs.read.Goals as goal

pub returns-then-text-gt8192 : goal.returns-then-text-gt8192
returns-then-text-gt8192 c = too_long _ (omega (arith, c.if-text-gt8192.true)) c.refused.ensures

pub returns-in_err-head : goal.returns-in_err-head
returns-in_err-head c =
    let told : c.from_residual.result ≡ Err c.in_err-head.field-0.0 = search rules in
    let bad : HeadRead c.args.text.now (Err c.in_err-head.field-0.0) = c.in_err-head.ensures in
    rw told (bad_text _ (omega (arith, c.if-text-gt8192.false)) bad)

pub read_terms-requires : goal.read_terms-requires
read_terms-requires c =
    let head : HeadGood c.args.text.now c.in_ok-head.head = c.in_ok-head.ensures in
    (head.within, omega (arith, c.if-text-gt8192.false), no_terms)

pub returns-in_err-read_terms : goal.returns-in_err-read_terms
returns-in_err-read_terms c =
    let head : HeadGood c.args.text.now c.in_ok-head.head = c.in_ok-head.ensures in
    let told : c.from_residual-in_err-read_terms.result ≡ Err c.in_err-read_terms.field-0.0 = search rules in
    let bad : TermsRead c.args.text.now c.in_ok-head.head.next c.in_ok-head.head.d c.read_terms.new.values (Err c.in_err-read_terms.field-0.0) = c.in_err-read_terms.ensures in
    rw told (bad_term _ (omega (arith, c.if-text-gt8192.false)) head c.read_terms.new.values _ bad.told)

pub returns : goal.returns
returns c =
    let head : HeadGood c.args.text.now c.in_ok-head.head = c.in_ok-head.ensures in
    let terms : TermsRead c.args.text.now c.in_ok-head.head.next c.in_ok-head.head.d c.read_terms.new.values (Ok tt) = c.in_ok-read_terms.ensures in
    well_read _ (omega (arith, c.if-text-gt8192.false)) head c.read_terms.new.values tt terms.told c.judged.ensures
