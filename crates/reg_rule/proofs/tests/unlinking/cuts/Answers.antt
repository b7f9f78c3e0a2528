use Rattle.reg_rule.proofs.TrialsSwept.{may_cut, cut_once}
use Rattle.reg_rule.proofs.tests.unlinking.cuts.Goals as goal

pub cut_head-requires-clause-may : goal.cut_head-requires-clause-may
cut_head-requires-clause-may c = may_cut c.args.pass.now.1 c.requires.key c.requires.log c.args.table _ c.args.behind c.requires.table c.bucket_of-bucket.ensures.value c.requires.holding

pub returns : goal.returns
returns c =
    let called = c.cut_head.ensures in
    let view = cut_once c.args.pass.now.1 _ c.args.table c.args.behind _ c.requires.holding called.told c.if-cut_head-ne1.false in
    λ x. (called.own.0 x, view x)
