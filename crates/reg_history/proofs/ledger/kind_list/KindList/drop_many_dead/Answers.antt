use Rattle.reg_history.proofs.ledger.LiveEntries.{entries_dropped, live_in-dropped}
use Rattle.reg_history.proofs.ledger.kind_list.KindList.drop_many_dead.Goals as goal

pub invariant_of-self : goal.invariant_of-self
invariant_of-self c = rw (c.drop_dead.ensures.marks, c.drop_dead.ensures.bodies) (entries_dropped c.self.inside.marks.items c.self.inside.bodies.items c.self.inside.dead c.self.invariant)

pub returns-then-self-len : goal.returns-then-self-len
returns-then-self-len c = rw (c.drop_dead.ensures.marks, c.drop_dead.ensures.bodies, ← c.self.view_is) (live_in-dropped c.self.inside.kind c.self.inside.marks.items c.self.inside.bodies.items)
