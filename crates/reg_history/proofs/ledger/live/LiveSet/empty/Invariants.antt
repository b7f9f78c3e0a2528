use Rattle.std.proofs.Common.{◌≡◌, [], replicate}
use Rattle.reg_history.proofs.ledger.live.LiveSet.empty.Given as goal

abbrev pub invariant-loop : goal.invariant-loop
invariant-loop l = l.kinds.items ≡ replicate l.counter []
