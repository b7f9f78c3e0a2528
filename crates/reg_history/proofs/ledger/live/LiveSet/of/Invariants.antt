use Rattle.std.proofs.Common.{take}
use Rattle.reg_history.specs.inner.LiveSets.{AreByKind}
use Rattle.reg_history.proofs.ledger.live.LiveSet.of.Given as goal

-- the set of what the loop has passed
abbrev pub invariant-loop-declared : goal.invariant-loop-declared
invariant-loop-declared l = AreByKind l.set (take l.declared-index l.list)
