use Rattle.reg_top.proofs.fault_line.unsaved.Goals as goal

pub returns-clause-told : goal.returns-clause-told
returns-clause-told g c = rw (← c.as_bytes.ensures.value) c.tell.ensures
