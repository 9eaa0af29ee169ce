-- `header::read_head` meets its contract: one thing after the other.
use Rattle.header.proofs.Heading.{head_other, head_no_width, head_no_height, head_unopened, head_read}
use Rattle.header.proofs.read_head.Goals as goal

pub returns-then-not-magic : goal.returns-then-not-magic
returns-then-not-magic c = head_other _ c.magic.ensures c.if-not-magic.true

pub returns-in_err-wide : goal.returns-in_err-wide
returns-in_err-wide c = rw c.from_residual.ensures (head_no_width c.args.text.now c.magic.ensures c.if-not-magic.false c.in_err-wide.ensures)

pub returns-in_err-high : goal.returns-in_err-high
returns-in_err-high c = rw c.from_residual-in_err-high.ensures (head_no_height c.args.text.now c.magic.ensures c.if-not-magic.false c.in_ok-wide.ensures c.in_err-high.ensures)

pub returns-in_err-next : goal.returns-in_err-next
returns-in_err-next c = rw c.from_residual-in_err-next.ensures (head_unopened c.args.text.now c.magic.ensures c.if-not-magic.false c.in_ok-wide.ensures c.in_ok-high.ensures c.in_err-next.ensures)

pub returns : goal.returns
returns c = head_read c.args.text.now c.magic.ensures c.if-not-magic.false c.in_ok-wide.ensures c.in_ok-high.ensures c.in_ok-next.ensures
