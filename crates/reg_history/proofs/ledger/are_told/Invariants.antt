use Rattle.std.proofs.Common.{length}
use Rattle.reg_history.proofs.ledger.ToldHits.{ToldBefore}
use Rattle.reg_history.proofs.ledger.are_told.Given as goal

-- the pairs that the loop has passed agree
abbrev pub invariant-loop-hit : goal.invariant-loop-hit
invariant-loop-hit l = ToldBefore l.asked.kind l.hits l.told (length l.yielded)
