use Rattle.reg_rule.proofs.TrialsSwept.{may_leave}
use Rattle.reg_rule.proofs.tests.unlinking.leaves.Goals as goal

pub store_sweep-requires-clause-may : goal.store_sweep-requires-clause-may
store_sweep-requires-clause-may c = may_leave _ c.args.pass.now.1 c.requires.holding c.pack.ensures
