use Rattle.std.proofs.Common.{length}
use Rattle.reg_history.proofs.lines.HitReading.{HitsSoFar}
use Rattle.reg_history.proofs.lines.told_reply.hits_of.Given as goal

abbrev pub invariant-loop-rest : goal.invariant-loop-rest
invariant-loop-rest l = HitsSoFar l.fn.words l.hits l.rest

abbrev pub decreases-loop-rest : goal.decreases-loop-rest
decreases-loop-rest l = length l.rest
