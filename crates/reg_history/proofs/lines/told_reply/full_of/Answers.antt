use Rattle.reg_history.proofs.lines.ReplyReading.{full_read}
use Rattle.reg_history.proofs.lines.told_reply.full_of.Goals as goal

pub returns-else-first_byte-eq108-clause-reads : goal.returns-else-first_byte-eq108-clause-reads
returns-else-first_byte-eq108-clause-reads c = λ cause h text.
    full_read cause c.args.text.now c.behind.result.now _ _ _ h text c.behind.ensures.reads c.first_byte.ensures c.if-first_byte-eq108.false c.number_behind.ensures.reads
