use Rattle.std.proofs.Common.{◌+◌, ◌-◌, ◌*◌}
use Rattle.reg_rule.specs.SweepWords.{rank}
use Rattle.reg_rule.specs.Rounds.{IsWordsPass}
use Rattle.reg_sweep.specs.inner.Turns.{IsSeeking}
use Rattle.reg_sweep.proofs.seizing.seize.Given as goal

-- all exchanges so far found another word
abbrev pub invariant-loop-word : goal.invariant-loop-word
invariant-loop-word l = record {
  own : IsWordsPass l.words l.pass;
  seeking : IsSeeking l.fn.pass.1 l.pass.1;
}

-- the word is further on each time
abbrev pub decreases-loop-word : goal.decreases-loop-word
decreases-loop-word l = (2 * l.words.1.sizes.log + 2) - rank l.pass.1.last_word
