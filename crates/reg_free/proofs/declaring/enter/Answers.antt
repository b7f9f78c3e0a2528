use Rattle.reg_free.proofs.Entering.{may_first, may_second, may_link_0, may_link_1, may_link_2, may_link_3, linked_3, is_linked}
use Rattle.reg_free.proofs.declaring.enter.Goals as goal

pub store_held-requires-clause-may : goal.store_held-requires-clause-may
store_held-requires-clause-may g c = may_first c.args.pass.now.1 c.args.entry c.args.unit.now.body _ c.requires.hand.0 c.requires.hand.1 c.pin.new.pass c.pin.ensures

pub store_held-requires-2-clause-may : goal.store_held-requires-2-clause-may
store_held-requires-2-clause-may g c = may_second c.args.pass.now.1 c.args.entry c.args.unit.now.body _ c.requires.hand.0 c.requires.hand.1 c.pin.new.pass c.pin.ensures c.store_held.new.pass.1 c.store_held.ensures.told

pub link-requires-clause-hand : goal.link-requires-clause-hand
link-requires-clause-hand g c = may_link_0 c.args.pass.now.1 c.args.entry c.args.unit.now.body _ c.requires.hand.0 c.requires.hand.1 c.pin.new.pass c.pin.ensures c.store_held.new.pass.1 c.store_held.ensures.told c.store_held-2.new.pass.1 c.store_held-2.ensures.told

pub link-requires-2-clause-hand : goal.link-requires-2-clause-hand
link-requires-2-clause-hand g c = may_link_1 c.args.pass.now.1 c.args.entry c.args.unit.now.body _ c.requires.hand.0 c.requires.hand.1 c.pin.new.pass c.pin.ensures c.store_held.new.pass.1 c.store_held.ensures.told c.store_held-2.new.pass.1 c.store_held-2.ensures.told c.link.new.pass.1 c.link.ensures.linked

pub link-requires-3-clause-hand : goal.link-requires-3-clause-hand
link-requires-3-clause-hand g c = may_link_2 c.args.pass.now.1 c.args.entry c.args.unit.now.body _ c.requires.hand.0 c.requires.hand.1 c.pin.new.pass c.pin.ensures c.store_held.new.pass.1 c.store_held.ensures.told c.store_held-2.new.pass.1 c.store_held-2.ensures.told c.link.new.pass.1 c.link.ensures.linked c.link-2.new.pass.1 c.link-2.ensures.linked

pub link-requires-4-clause-hand : goal.link-requires-4-clause-hand
link-requires-4-clause-hand g c = may_link_3 c.args.pass.now.1 c.args.entry c.args.unit.now.body _ c.requires.hand.0 c.requires.hand.1 c.pin.new.pass c.pin.ensures c.store_held.new.pass.1 c.store_held.ensures.told c.store_held-2.new.pass.1 c.store_held-2.ensures.told c.link.new.pass.1 c.link.ensures.linked c.link-2.new.pass.1 c.link-2.ensures.linked c.link-3.new.pass.1 c.link-3.ensures.linked

pub publish-requires : goal.publish-requires
publish-requires g c = record {
  linked = is_linked c.args.words.now c.args.unit.now c.args.entry c.args.pass.now c.link-4.new.pass c.requires.rests c.requires.hand.0 c.link-4.ensures.own
      (linked_3 c.args.pass.now.1 c.args.entry c.args.unit.now.body _ c.requires.hand.0 c.requires.hand.1 c.pin.new.pass c.pin.ensures c.store_held.new.pass.1 c.store_held.ensures.told c.store_held-2.new.pass.1 c.store_held-2.ensures.told c.link.new.pass.1 c.link.ensures.linked c.link-2.new.pass.1 c.link-2.ensures.linked c.link-3.new.pass.1 c.link-3.ensures.linked c.link-4.new.pass.1 c.link-4.ensures.linked);
}
