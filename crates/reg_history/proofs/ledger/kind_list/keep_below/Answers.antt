use Rattle.reg_history.proofs.ledger.LiveEntries.{entries_dropped, live_in-dropped, below_live}
use Rattle.reg_history.proofs.ledger.kind_list.keep_below.Goals as goal

pub returns-clause-entries : goal.returns-clause-entries
returns-clause-entries c = rw (c.drop_dead.ensures.marks, c.drop_dead.ensures.bodies) (entries_dropped c.args.marks.now.items c.args.bodies.now.items c.args.dead c.requires)

pub returns-clause-below : goal.returns-clause-below
returns-clause-below c = λ kind lower. rw c.drop_dead.ensures.marks (below_live c.args.id kind c.args.marks.now.items c.args.bodies.now.items c.requires.long lower)

pub returns-clause-live : goal.returns-clause-live
returns-clause-live c = λ kind. rw (c.drop_dead.ensures.marks, c.drop_dead.ensures.bodies) (live_in-dropped kind c.args.marks.now.items c.args.bodies.now.items)
