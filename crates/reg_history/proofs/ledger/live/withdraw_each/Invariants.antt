use Rattle.reg_history.proofs.ledger.ByKind.{AreWithout}
use Rattle.reg_history.proofs.ledger.live.withdraw_each.Given as goal

-- the lists so far are without the id
abbrev pub invariant-loop-list : goal.invariant-loop-list
invariant-loop-list l = AreWithout l.id l.list-index l.initial.lists l.lists l.was
