use Rattle.reg_rule.proofs.TrialsSwept.{may_load_head, head_loaded}
use Rattle.reg_rule.proofs.tests.unlinking.finds_first.Goals as goal

pub load_head-requires-clause-may : goal.load_head-requires-clause-may
load_head-requires-clause-may c = may_load_head c.args.pass.now.1 c.requires.key c.requires.log c.args.table _ c.requires.table c.bucket_of-bucket.ensures.value c.requires.holding

pub returns : goal.returns
returns c =
    let called = c.load_head.ensures in
    let view = head_loaded c.args.pass.now.1 c.requires.key c.requires.log c.args.table c.bucket_of-bucket.result _ _ c.requires.holding called.told c.if-load_head-ne1.false in
    λ x. (called.own.0 x, view x)
