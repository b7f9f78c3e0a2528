use Rattle.std.proofs.Common.{length, ◌-◌}
use Rattle.reg_rule.specs.Rounds.{IsWordsPass}
use Rattle.reg_free.specs.inner.Refusals.{IsRefusing}
use Rattle.reg_free.proofs.declaring.refused_at.Given as goal

abbrev pub invariant-loop-pass : goal.invariant-loop-pass
invariant-loop-pass l = record {
  own : IsWordsPass l.words l.pass;
  refusing : IsRefusing l.taken l.fn.pass.1 l.pass.1;
}

abbrev pub decreases-loop-pass : goal.decreases-loop-pass
decreases-loop-pass l = l.places - length l.pass.1.log
