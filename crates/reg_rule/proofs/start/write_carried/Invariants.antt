use Rattle.reg_rule.specs.inner.Opening.{Filling}
use Rattle.reg_rule.proofs.start.write_carried.Given as goal

abbrev pub invariant-loop-entry : goal.invariant-loop-entry
invariant-loop-entry l = Filling l.key l.words l.entry 0 0
