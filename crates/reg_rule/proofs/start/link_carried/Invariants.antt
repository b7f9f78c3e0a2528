use Rattle.std.proofs.Common.{length}
use Rattle.reg_rule.specs.inner.Opening.{Filling}
use Rattle.reg_rule.proofs.start.link_carried.Given as goal

abbrev pub invariant-loop-table : goal.invariant-loop-table
invariant-loop-table l = Filling l.key l.words (length l.key.carried.list) l.table 0
