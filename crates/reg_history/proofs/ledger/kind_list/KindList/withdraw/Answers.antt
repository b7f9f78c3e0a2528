use Rattle.std.proofs.Common.{sym, ap, arith, refl}
use Rattle.std.specs.Prelude.{is_some}
use Rattle.reg_history.specs.declared.ledger.kind_list.Mark.{Mark}
use Rattle.reg_history.proofs.ledger.LiveEntries.{find-nowhere, without_none, live_inside, find-at, without-at, entries_marked}
use Rattle.reg_history.proofs.ledger.kind_list.KindList.withdraw.Goals as goal

pub returns-in_default-clause-was : goal.returns-in_default-clause-was
returns-in_default-clause-was c =
    rw (← c.self.view_is) (sym (ap is_some (find-nowhere c.args.id c.self.inside.kind c.self.inside.marks.items c.self.inside.bodies.items (rw (← c.deref.ensures.value) c.in_default.ensures.none))))

pub returns-in_default-clause-left : goal.returns-in_default-clause-left
returns-in_default-clause-left c =
    rw (← c.self.view_is)
    (sym (without_none c.args.id _ (find-nowhere c.args.id c.self.inside.kind c.self.inside.marks.items c.self.inside.bodies.items (rw (← c.deref.ensures.value) c.in_default.ensures.none))))

pub index_mut-requires : goal.index_mut-requires
index_mut-requires c = omega (arith, c.deref.ensures.len, live_inside c.args.id c.in-Some.place c.deref.result.now c.in-Some.ensures.found)

pub invariant_of-self : goal.invariant_of-self
invariant_of-self c =
    let inside = c.self.inside in
    entries_marked c.args.id c.in-Some.place inside.marks.items inside.bodies.items inside.dead _ c.index_mut.result.now c.self.invariant (rw (← c.deref.ensures.value) c.in-Some.ensures.found)
    (ap (λ (m : Mark). m.id) c.index_mut.ensures.value) refl

pub returns-clause-was : goal.returns-clause-was
returns-clause-was c =
    let inside = c.self.inside in
    rw (← c.self.view_is)
    (sym (ap is_some (find-at c.args.id c.in-Some.place 0 inside.kind inside.marks.items inside.bodies.items 0 c.self.invariant.long c.self.invariant.rises (rw (← c.deref.ensures.value) c.in-Some.ensures.found))))

pub returns-clause-left : goal.returns-clause-left
returns-clause-left c =
    let inside = c.self.inside in
    rw (c.drop_many_dead.ensures, ← c.self.view_is)
    (without-at c.args.id c.in-Some.place 0 inside.kind inside.marks.items inside.bodies.items _ c.self.invariant.long c.self.invariant.rises (rw (← c.deref.ensures.value) c.in-Some.ensures.found) refl)
