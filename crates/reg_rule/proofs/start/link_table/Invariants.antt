use Rattle.std.proofs.Common.{length}
use Rattle.reg_rule.specs.inner.Opening.{Filling}
use Rattle.reg_rule.proofs.start.link_table.Given as goal

abbrev pub invariant-loop-entry : goal.invariant-loop-entry
invariant-loop-entry l = Filling l.key l.words (length l.key.carried.list) l.table l.entry
