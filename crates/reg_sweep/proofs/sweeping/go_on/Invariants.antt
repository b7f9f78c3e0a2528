use Rattle.std.proofs.Common.{◌≤◌, ◌-◌}
use Rattle.reg_rule.specs.Rounds.{IsWordsPass}
use Rattle.reg_sweep.specs.inner.Turns.{HasPassed}
use Rattle.reg_sweep.proofs.sweeping.go_on.Given as goal

-- so many places were passed
abbrev pub invariant-loop-places : goal.invariant-loop-places
invariant-loop-places l = record {
  own : IsWordsPass l.words l.pass;
  passed : HasPassed l.from l.begun l.places l.given l.fn.pass.1 l.pass.1;
  most : l.places ≤ l.limit;
}

abbrev pub decreases-loop-places : goal.decreases-loop-places
decreases-loop-places l = l.limit - l.places
