use Rattle.reg_session.proofs.sure_shelf.SureShelf.file.Goals as goal

pub returns-clause-found : goal.returns-clause-found
returns-clause-found c = rw (← c.self.view_is) (rw c.as_slice.ensures.value at c.bytes_at.ensures.found)
