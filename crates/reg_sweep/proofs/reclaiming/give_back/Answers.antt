use Rattle.std.proofs.Common.{refl, arith}
use Rattle.reg_sweep.proofs.Givebacks.{may_load, may_raise, may_pass}
use Rattle.reg_sweep.proofs.reclaiming.give_back.Goals as goal

pub load_put-put-requires-clause-may : goal.load_put-put-requires-clause-may
load_put-put-requires-clause-may c = let w = c.requires.waits in may_load c.args.place c.args.mark w.0 c.args.entry c.args.pass.now.1 w.1 c.scan.new.pass.1 c.in_default.ensures.free

pub store_put-requires-clause-may : goal.store_put-requires-clause-may
store_put-requires-clause-may c = let w = c.requires.waits in
    may_raise c.args.place c.args.mark w.0 c.args.entry c.args.pass.now.1 w.1 c.scan.new.pass.1 c.in_default.ensures.free c.load_put-put.result c.load_put-put.new.pass.1 (c.load_put-put.ensures.told.swept refl).0 c.store_give.new.pass.1 c.store_give.ensures.told _ (omega arith)

pub store_sweep-requires-clause-may : goal.store_sweep-requires-clause-may
store_sweep-requires-clause-may c = let w = c.requires.waits in record {
  holding = may_pass c.args.place c.args.mark w.0 c.args.entry c.args.pass.now.1 w.1 c.scan.new.pass.1 c.in_default.ensures.free c.load_put-put.result c.load_put-put.new.pass.1 (c.load_put-put.ensures.told.swept refl).0 c.store_give.new.pass.1 c.store_give.ensures.told c.store_put.new.pass.1 c.store_put.ensures.told c.resting-next.result c.resting-next.ensures;
  word_is = c.pack.ensures;
}
