use Rattle.mih_chain.proofs.Trials.{may_store_code}
use Rattle.mih_chain.proofs.tests.pushing.writes.Goals as goal

pub store_held-requires-2-clause-may : goal.store_held-requires-2-clause-may
store_held-requires-2-clause-may c = may_store_code c.args.pass.now.1 _ c.args.entry c.requires.hand c.requires.inside c.store_held.ensures.told
