use Rattle.std.proofs.Common.{length}
use Rattle.reg_rule.specs.Rounds.{IsWordsPass}
use Rattle.reg_query.specs.inner.Walks.{IsWalkingPlan}
use Rattle.reg_query.proofs.near.walk_plan.Given as goal

abbrev pub invariant-loop-probe : goal.invariant-loop-probe
invariant-loop-probe l = record {
  own : IsWordsPass l.words l.pass;
  walking : IsWalkingPlan l.query l.fn.pass.1 l.probes l.told l.listing.hits.items l.listing.looked l.pass.1;
}

abbrev pub decreases-loop-probe : goal.decreases-loop-probe
decreases-loop-probe l = length l.probes
