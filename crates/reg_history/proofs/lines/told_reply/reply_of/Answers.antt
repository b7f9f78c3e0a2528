use Rattle.std.proofs.Common.{◌∙◌, sym}
use Rattle.reg_history.proofs.lines.ReplyReading.{hits_read, plain_read}
use Rattle.reg_history.proofs.lines.told_reply.reply_of.Goals as goal

pub returns-in_ok-hits_of-clause-reads : goal.returns-in_ok-hits_of-clause-reads
returns-in_ok-hits_of-clause-reads c = λ reply h text.
    hits_read reply c.args.text.now _ c.value_behind.result.1.now _ h text (sym c.first_byte.ensures ∙ c.if-first_byte-eq104.true) c.value_behind.ensures.reads c.in_ok-hits_of.ensures.reads

pub returns-else-first_byte-eq104-clause-reads : goal.returns-else-first_byte-eq104-clause-reads
returns-else-first_byte-eq104-clause-reads c = λ reply h text.
    plain_read reply c.args.text.now _ h text (λ e. c.if-first_byte-eq104.false (c.first_byte.ensures ∙ e)) c.plain_reply_of.ensures.reads
