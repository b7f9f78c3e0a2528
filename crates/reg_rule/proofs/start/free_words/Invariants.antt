use Rattle.reg_rule.proofs.Filling.{Filled}
use Rattle.reg_rule.proofs.start.free_words.Given as goal

abbrev pub invariant-loop-i : goal.invariant-loop-i
invariant-loop-i l = record { filled : Filled l.key l.words.items l.i }
