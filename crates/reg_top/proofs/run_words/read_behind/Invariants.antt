use Rattle.std.proofs.Common.{◌-◌, length}
use Rattle.reg_top.specs.inner.RunWords.{HasRead, read_of}
use Rattle.reg_top.proofs.run_words.read_behind.Given as goal

-- the words up to this place are read
abbrev pub invariant-loop-at : goal.invariant-loop-at
invariant-loop-at l = HasRead l.words l.at (read_of l.reading)

abbrev pub decreases-loop-at : goal.decreases-loop-at
decreases-loop-at l = length l.words - l.at
