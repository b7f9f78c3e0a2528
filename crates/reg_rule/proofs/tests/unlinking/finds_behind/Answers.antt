use Rattle.reg_rule.proofs.TrialsSwept.{may_load_next, next_loaded}
use Rattle.reg_rule.proofs.tests.unlinking.finds_behind.Goals as goal

pub load_next-requires-clause-may : goal.load_next-requires-clause-may
load_next-requires-clause-may c = may_load_next c.args.pass.now.1 c.requires.key c.requires.log c.args.table c.requires.table c.requires.holding

pub returns : goal.returns
returns c =
    let called = c.load_next.ensures in
    let view = next_loaded c.args.pass.now.1 c.requires.key c.requires.log c.args.table _ _ c.requires.holding called.told in
    λ x. (called.own.0 x, view x)
