use Rattle.std.proofs.Common.{arith}
use Rattle.reg_history.proofs.ledger.LiveEntries.{length-live_in}
use Rattle.reg_history.proofs.ledger.kind_list.KindList.len.Goals as goal

pub returns-clause-value : goal.returns-clause-value
returns-clause-value c =
    let inside = c.self.inside in
    rw (← c.self.view_is, c.as_slice.ensures.value) (omega (arith, c.self.invariant.counted, length-live_in inside.kind inside.marks.items inside.bodies.items c.self.invariant.long))
