use Rattle.reg_commit.proofs.Turns.{took_one, lost_one}
use Rattle.reg_commit.proofs.taking.take.Goals as goal

pub returns-in-Took-clause-took : goal.returns-in-Took-clause-took
returns-in-Took-clause-took c = took_one c.args.pass.now.1 c.loop-entry.pass.1 _ c.loop-entry.taken _ c.loop-entry.invariant.taking c.in-Took.ensures.tried

pub loop-entry-preserved : goal.loop-entry-preserved
loop-entry-preserved c = record {
  own = c.try_take.ensures.own;
  taking = lost_one c.args.pass.now.1 c.loop-entry.pass.1 _ c.loop-entry.taken _ c.loop-entry.invariant.taking c.in-Lost.ensures.tried;
}
