use Rattle.reg_commit.proofs.Trials.{may_store_next, may_swap_head}
use Rattle.reg_commit.proofs.tests.declaring.links.Goals as goal

pub store_next-requires-clause-may : goal.store_next-requires-clause-may
store_next-requires-clause-may c =
    may_store_next c.args.pass.now.1 _ c.args.entry c.args.table c.requires.hand c.requires.inside c.requires.table c.load_head-first.ensures.told

pub swap_head-requires-clause-may : goal.swap_head-requires-clause-may
swap_head-requires-clause-may c =
    may_swap_head c.args.pass.now.1 _ _ c.args.entry c.args.table _ c.requires.hand c.requires.bits c.requires.table c.load_head-first.ensures.told c.store_next.ensures.told
