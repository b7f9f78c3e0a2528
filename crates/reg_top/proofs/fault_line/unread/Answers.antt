use Rattle.reg_top.proofs.fault_line.unread.Goals as goal

pub returns-in-Missing-clause-told : goal.returns-in-Missing-clause-told
returns-in-Missing-clause-told g c = rw (c.in-Missing.is, ← c.as_bytes.ensures.value) c.tell.ensures
