-- `header::gaps::opening_end` meets its contract: where `#` stands, by the end of the comment that it begins.
use Rattle.std.proofs.Common.{rules}
use Rattle.header.proofs.Passing.{opened_unended, opened_comment}
use Rattle.header.proofs.gaps.opening_end.Goals as goal

pub returns-in_err-comment_end-in-len1-up-2 : goal.returns-in_err-comment_end-in-len1-up-2
returns-in_err-comment_end-in-len1-up-2 c = rw c.from_residual.ensures (opened_unended c.args.text.now c.args.at (search rules) c.if-byte-eq-HASH.true c.in_err-comment_end-in-len1-up-2.ensures)

pub returns-in_ok-comment_end-in-len1-up-2 : goal.returns-in_ok-comment_end-in-len1-up-2
returns-in_ok-comment_end-in-len1-up-2 c = opened_comment c.args.text.now c.args.at (search rules) c.if-byte-eq-HASH.true c.in_ok-comment_end-in-len1-up-2.ensures
