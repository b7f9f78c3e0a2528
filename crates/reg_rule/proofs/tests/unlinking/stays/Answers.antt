use Rattle.reg_rule.proofs.TrialsSwept.{may_stay}
use Rattle.reg_rule.proofs.tests.unlinking.stays.Goals as goal

pub store_sweep-requires-clause-may : goal.store_sweep-requires-clause-may
store_sweep-requires-clause-may c = may_stay _ c.args.pass.now.1 c.requires.holding c.pack.ensures
