use Rattle.std.proofs.Common.{take}
use Rattle.reg_history.specs.inner.LiveSets.{AreByKind}
use Rattle.reg_history.proofs.ledger.ByKind.{above, kinds_agree, taken_more}
use Rattle.reg_history.proofs.ledger.live.LiveSet.of.Goals as goal

pub push-requires-clause-kinds : goal.push-requires-clause-kinds
push-requires-clause-kinds c = kinds_agree c.loop-declared.set (take c.loop-declared.declared-index c.args.list.now) c.loop-declared.invariant c.declared-item.result.unit.kind

pub push-requires-clause-ids : goal.push-requires-clause-ids
push-requires-clause-ids c = above c.loop-declared.set c.args.list.now c.loop-declared.declared-index c.declared-item.result c.loop-declared.invariant c.requires c.loop-declared-test.true c.declared-item.is

pub loop-declared-preserved : goal.loop-declared-preserved
loop-declared-preserved c =
    taken_more c.args.list.now c.loop-declared.declared-index c.declared-item.result (AreByKind c.push.new.self) c.loop-declared-test.true c.declared-item.is
    (c.in_ok-push.ensures.ok (take c.loop-declared.declared-index c.args.list.now) c.loop-declared.invariant)
