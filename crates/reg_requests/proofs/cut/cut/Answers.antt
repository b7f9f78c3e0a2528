use Rattle.std.proofs.Common.{◌+◌}
use Rattle.std.proofs.lemmas.List.{take_rest}
use Rattle.reg_requests.proofs.FirstLine.{cut_at, ends_there}
use Rattle.reg_requests.proofs.cut.cut.Goals as goal

pub returns-then-at-file-clause-lines : goal.returns-then-at-file-clause-lines
returns-then-at-file-clause-lines c =
    let file = c.args.file.now in
    let at = c.line_feed-at.result in
    rw (take_rest file (at + 1)) (cut_at file at c.line_feed-at.ensures.before c.if-at-file.true (c.line_feed-at.ensures.found c.if-at-file.true))

pub returns-else-at-file-clause-lines : goal.returns-else-at-file-clause-lines
returns-else-at-file-clause-lines c =
    ends_there c.args.file.now c.line_feed-at.result c.requires c.if-at-file.false c.line_feed-at.ensures.before
