use Rattle.reg_rule.proofs.TrialsSwept.{may_give, give_done}
use Rattle.reg_rule.proofs.tests.unlinking.gives.Goals as goal

pub store_give-requires-clause-may : goal.store_give-requires-clause-may
store_give-requires-clause-may c = may_give c.args.pass.now.1 c.requires.key c.requires.log c.requires.holding

pub returns : goal.returns
returns c =
    let called = c.store_give.ensures in
    let view = give_done c.args.pass.now.1 _ c.requires.holding called.told in
    λ x. (called.own.0 x, view x)
