use Rattle.reg_history.proofs.ledger.ByKind.{withdrawn_more}
use Rattle.reg_history.proofs.ledger.live.withdraw_each.Goals as goal

pub loop-list-preserved : goal.loop-list-preserved
loop-list-preserved c =
    withdrawn_more c.args.id c.loop-list.list-index c.args.lists.now c.loop-list.lists c.loop-list.was c.loop-list.invariant c.loop-list-test.true c.loop-list.auto.lists
    c.list-item.result c.withdraw-was.new.self c.withdraw-was.result c.withdraw-was.ensures.was c.withdraw-was.ensures.left
