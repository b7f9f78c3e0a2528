use Rattle.std.proofs.Common.{◌∙◌, take}
use Rattle.reg_history.proofs.lines.WordsBack.{free_more, taken_with}
use Rattle.reg_history.proofs.lines.line.next_line.Goals as goal

pub loop-i-preserved : goal.loop-i-preserved
loop-i-preserved c = free_more 10 c.args.text.now c.loop-i.i c.loop-i-test.true c.loop-i.invariant c.if-byte-eq10.false

pub returns-then-byte-eq10-clause-line : goal.returns-then-byte-eq10-clause-line
returns-then-byte-eq10-clause-line c =
    (take c.loop-i.i c.args.text.now, c.loop-i.invariant, c.split_at.ensures.front ∙ taken_with 10 c.args.text.now c.loop-i.i c.loop-i-test.true c.if-byte-eq10.true)
