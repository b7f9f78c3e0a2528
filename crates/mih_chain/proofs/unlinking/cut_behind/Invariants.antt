use Rattle.reg_rule.specs.Rounds.{IsWordsPass}
use Rattle.mih_chain.specs.inner.Ways.{IsFollowing, ahead_of}
use Rattle.mih_chain.proofs.unlinking.cut_behind.Given as goal

-- the way was followed so far
abbrev pub invariant-loop-next : goal.invariant-loop-next
invariant-loop-next l = record { own : IsWordsPass l.words l.pass; follows : IsFollowing l.fn.pass.1 l.pass.1 l.table l.entry l.at l.behind }

abbrev pub decreases-loop-next : goal.decreases-loop-next
decreases-loop-next l = ahead_of l.pass.1
