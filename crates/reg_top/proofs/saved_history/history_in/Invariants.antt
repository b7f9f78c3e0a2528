use Rattle.std.proofs.Common.{length}
use Rattle.reg_top.proofs.SavedLines.{Passed}
use Rattle.reg_top.proofs.saved_history.history_in.Given as goal

-- no line before the rest begins a history
abbrev pub invariant-loop-rest : goal.invariant-loop-rest
invariant-loop-rest l = Passed l.file l.rest

abbrev pub decreases-loop-rest : goal.decreases-loop-rest
decreases-loop-rest l = length l.rest
