use Rattle.reg_session.proofs.list_shelf.ListShelf.file.Goals as goal

pub returns-clause-found : goal.returns-clause-found
returns-clause-found c = rw (← c.self.view_is) (rw c.deref.ensures.value at c.bytes_at.ensures.found)
