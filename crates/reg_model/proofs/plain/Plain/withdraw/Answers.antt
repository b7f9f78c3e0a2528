use Rattle.std.proofs.Common.{◌≡◌, ◌<◌, length, subst, rules, arith}
use Rattle.reg_model.specs.inner.Current.{IsCurrent}
use Rattle.reg_model.proofs.Rising.{at_inside}
use Rattle.reg_model.specs.Opening.{opening_of}
use Rattle.reg_model.proofs.LiveSteps.{current_rising, current_withdraw}
use Rattle.reg_model.proofs.PlainSteps.{withdraw_absent, withdraw_full, withdraw_done}
use Rattle.reg_model.proofs.plain.Plain.withdraw.Goals as goal

pub place_of-requires : goal.place_of-requires
place_of-requires c = rw c.deref.ensures.value (current_rising _ _ _ c.self.invariant.0)

pub remove-requires : goal.remove-requires
remove-requires c = omega (arith, at_inside c.args.id c.in-Some.place c.self.inside.live.items (rw (← c.deref.ensures.value) c.in-Some.ensures.found))

pub invariant_of-self : goal.invariant_of-self
invariant_of-self c =
    let inside = c.self.inside in
    let log_room : length inside.log.items < inside.sizes.log = search rules in
    let current = current_withdraw inside.sizes (opening_of inside.base inside.carried.items) inside.log.items inside.live.items inside.withdrawn c.args.id c.in-Some.place c.self.invariant.0 log_room
    (rw (← c.deref.ensures.value) c.in-Some.ensures.found) in
    (rw (c.push_within.ensures.items, c.remove.ensures.items) current, omega (arith, c.push_within.ensures.capacity, c.self.invariant.1), omega (arith, c.remove.ensures.capacity, c.self.invariant.2))

pub returns-in_default-clause-serves : goal.returns-in_default-clause-serves
returns-in_default-clause-serves c =
    let inside = c.self.inside in
    let current = subst (λ r. IsCurrent r inside.live.items inside.withdrawn) c.self.view_is c.self.invariant.0 in
    withdraw_absent _ _ _ current c.args.id _ (rw (← c.deref.ensures.value) c.in_default.ensures.none) c.answer.ensures.reply c.answer.ensures.point

pub returns-then-len-log-clause-serves : goal.returns-then-len-log-clause-serves
returns-then-len-log-clause-serves c =
    let inside = c.self.inside in
    let current = subst (λ r. IsCurrent r inside.live.items inside.withdrawn) c.self.view_is c.self.invariant.0 in
    let full : length c.args.self.now.log ≡ c.args.self.now.limits.log = search rules in
    let answer = c.answer-then-len-log in
    (withdraw_full _ _ _ current c.args.id c.in-Some.place answer.result (rw (← c.deref.ensures.value) c.in-Some.ensures.found) full answer.ensures.reply answer.ensures.point).0

pub returns-then-len-log-clause-reply : goal.returns-then-len-log-clause-reply
returns-then-len-log-clause-reply c =
    let inside = c.self.inside in
    let current = subst (λ r. IsCurrent r inside.live.items inside.withdrawn) c.self.view_is c.self.invariant.0 in
    let full : length c.args.self.now.log ≡ c.args.self.now.limits.log = search rules in
    let answer = c.answer-then-len-log in
    (withdraw_full _ _ _ current c.args.id c.in-Some.place answer.result (rw (← c.deref.ensures.value) c.in-Some.ensures.found) full answer.ensures.reply answer.ensures.point).1

pub returns-clause-serves : goal.returns-clause-serves
returns-clause-serves c =
    let inside = c.self.inside in
    let room : length inside.log.items < inside.sizes.log = search rules in
    rw (← c.self.view_is)
    (withdraw_done _ _ _ c.self.invariant.0 c.args.id c.in-Some.place c.answer-2.result c.push_within.new.items.items (rw (← c.deref.ensures.value) c.in-Some.ensures.found) room
    c.push_within.ensures.items c.answer-2.ensures.reply c.answer-2.ensures.point c.answer-2.ensures.within).0

pub returns-clause-reply : goal.returns-clause-reply
returns-clause-reply c =
    let inside = c.self.inside in
    let room : length inside.log.items < inside.sizes.log = search rules in
    rw (← c.self.view_is)
    (withdraw_done _ _ _ c.self.invariant.0 c.args.id c.in-Some.place c.answer-2.result c.push_within.new.items.items (rw (← c.deref.ensures.value) c.in-Some.ensures.found) room
    c.push_within.ensures.items c.answer-2.ensures.reply c.answer-2.ensures.point c.answer-2.ensures.within).1
