use Rattle.std.proofs.Common.{◌-◌}
use Rattle.reg_rule.specs.Rounds.{IsWordsPass}
use Rattle.reg_commit.specs.inner.Turns.{most_taken, IsTaking}
use Rattle.reg_commit.proofs.taking.take.Given as goal

abbrev pub invariant-loop-entry : goal.invariant-loop-entry
invariant-loop-entry l = record {
  own : IsWordsPass l.words l.pass;
  taking : IsTaking l.fn.pass.1 l.taken l.pass.1;
}

abbrev pub decreases-loop-entry : goal.decreases-loop-entry
decreases-loop-entry l = most_taken l.words.1 - l.taken
