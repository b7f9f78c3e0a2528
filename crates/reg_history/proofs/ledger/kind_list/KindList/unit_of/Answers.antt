use Rattle.std.proofs.Common.{arith}
use Rattle.reg_history.proofs.ledger.LiveEntries.{found_unit, find-nowhere, live_inside}
use Rattle.reg_history.proofs.ledger.kind_list.KindList.unit_of.Goals as goal

pub returns-in_err-place-clause-none : goal.returns-in_err-place-clause-none
returns-in_err-place-clause-none c =
    let inside = c.self.inside in
    rw (c.from_residual.ensures, ← c.self.view_is) (find-nowhere c.args.id inside.kind inside.marks.items inside.bodies.items (rw (← c.deref.ensures.value) c.in_err-place.ensures.none))

pub index-requires : goal.index-requires
index-requires c = omega (arith, c.self.invariant.long, c.deref.ensures.len, live_inside c.args.id c.in_ok-place.place c.deref.result.now c.in_ok-place.ensures.found)

pub returns-clause-found : goal.returns-clause-found
returns-clause-found c =
    let inside = c.self.inside in
    rw (← c.self.view_is)
    (found_unit c.args.id c.in_ok-place.place inside.kind inside.marks.items inside.bodies.items c.index.result.now c.self.invariant.long c.self.invariant.rises
    (rw (← c.deref.ensures.value) c.in_ok-place.ensures.found) c.index.ensures)
