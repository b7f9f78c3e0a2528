use Rattle.reg_rule.proofs.TrialsSwept.{may_find_put, put_found}
use Rattle.reg_rule.proofs.tests.unlinking.finds_put.Goals as goal

pub load_put-requires-clause-may : goal.load_put-requires-clause-may
load_put-requires-clause-may c = may_find_put c.args.pass.now.1 c.requires.key c.requires.log c.requires.holding

pub returns : goal.returns
returns c =
    let called = c.load_put.ensures in
    let view = put_found c.args.pass.now.1 _ _ c.requires.holding called.told c.if-load_put-ne4.false in
    λ x. (called.own.0 x, view x)
