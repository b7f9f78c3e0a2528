use Rattle.reg_rule.proofs.TrialsSwept.{may_raise_put, put_done}
use Rattle.reg_rule.proofs.tests.unlinking.raises.Goals as goal

pub store_put-requires-clause-may : goal.store_put-requires-clause-may
store_put-requires-clause-may c = may_raise_put c.args.pass.now.1 c.requires.key c.requires.log c.requires.holding

pub returns : goal.returns
returns c =
    let called = c.store_put.ensures in
    let view = put_done c.args.pass.now.1 _ c.requires.holding called.told in
    λ x. (called.own.0 x, view x)
