use Rattle.reg_rule.specs.Rounds.{IsWordsPass}
use Rattle.mih_chain.specs.inner.Turns.{IsLinking}
use Rattle.mih_chain.proofs.linking.link.Given as goal

-- all turns so far were lost
abbrev pub invariant-loop : goal.invariant-loop
invariant-loop g l =
    (goal.iterator-loop g).can_next l.iterator' × (goal.iterator-loop g).is_finite l.iterator' × IsWordsPass l.words l.pass × IsLinking l.fn.pass.1 l.pass.1
