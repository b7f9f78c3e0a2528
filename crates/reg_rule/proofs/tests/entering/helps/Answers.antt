use Rattle.reg_rule.proofs.TrialsHelped.{may_swap_birth}
use Rattle.reg_rule.proofs.tests.entering.helps.Goals as goal

pub swap_birth-requires-clause-may : goal.swap_birth-requires-clause-may
swap_birth-requires-clause-may c =
    may_swap_birth c.args.pass.now.1 _ c.args.place c.args.entry _ c.requires.base c.requires.inside.1 c.requires.helps c.requires.declares c.in_ok-birth.ensures c.store_note.ensures.told
