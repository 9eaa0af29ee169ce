-- `reading::terms::term_line` meets its contract: the line, what is wrong with it, and its term where nothing is.
use Rattle.std.proofs.Common.{◌≡◌, sym, ◌∙◌, rules, Err}
use Rattle.lines.specs.Steps.{LineTaken}
use Rattle.reading.proofs.TermLines.{term_signs}
use Rattle.reading.proofs.Naming.{term_placed, term_refused, term_entered}
use Rattle.reading.proofs.terms.term_line.Goals as goal

pub returns-in_err-line_fault : goal.returns-in_err-line_fault
returns-in_err-line_fault c =
    let line : LineTaken c.args.text.now c.args.at 84 3 term_signs c.take_line-taken.result = c.take_line-taken.ensures in
    let told : c.from_residual.result ≡ Err c.in_err-line_fault.field-0.0 = search rules in
    rw told (term_refused c.args.text.now c.args.at c.requires.0 c.args.d line c.args.values.now c.args.named.now c.requires.1 c.requires.2 (sym c.line_fault.ensures ∙ c.in_err-line_fault.was))

pub enter-requires : goal.enter-requires
enter-requires c =
    let line : LineTaken c.args.text.now c.args.at 84 3 term_signs c.take_line-taken.result = c.take_line-taken.ensures in
    let p = term_placed c.args.text.now c.args.at c.requires.0 c.args.d line c.args.values.now c.args.named.now c.requires.1 c.requires.2 (sym c.line_fault.ensures ∙ c.in_ok-line_fault.was) in
    (line.three, p.0, p.1, c.requires.1, c.requires.2)

pub returns : goal.returns
returns c =
    let line : LineTaken c.args.text.now c.args.at 84 3 term_signs c.take_line-taken.result = c.take_line-taken.ensures in
    term_entered c.args.text.now c.args.at c.requires.0 c.args.d line c.args.values.now c.args.named.now c.requires.1 c.requires.2 (sym c.line_fault.ensures ∙ c.in_ok-line_fault.was)
    c.enter.ensures.0 c.enter.ensures.1
