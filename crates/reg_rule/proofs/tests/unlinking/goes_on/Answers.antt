use Rattle.reg_rule.proofs.TrialsSwept.{may_go_on}
use Rattle.reg_rule.proofs.tests.unlinking.goes_on.Goals as goal

pub store_sweep-requires-clause-may : goal.store_sweep-requires-clause-may
store_sweep-requires-clause-may c = may_go_on _ c.args.pass.now.1 c.requires.holding c.pack.ensures
