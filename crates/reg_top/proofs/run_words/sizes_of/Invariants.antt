use Rattle.reg_top.proofs.RunWordsSizes.{SizedSoFar}
use Rattle.reg_top.proofs.run_words.sizes_of.Given as goal

-- the rounds so far have their sizes
abbrev pub invariant-loop-round : goal.invariant-loop-round
invariant-loop-round l = SizedSoFar l.fn.first l.bits l.rounds l.round-index l.before l.sizes.items
