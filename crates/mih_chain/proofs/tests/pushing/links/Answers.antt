use Rattle.mih_chain.proofs.Trials.{may_link, linked_more}
use Rattle.mih_chain.proofs.tests.pushing.links.Goals as goal

pub link-requires-clause-hand : goal.link-requires-clause-hand
link-requires-clause-hand g c = may_link c.args.pass.now.1 c.args.entry c.args.code c.args.table c.requires.hand c.requires.inside c.requires.table

pub returns : goal.returns
returns g c =
    let called = c.link.ensures in let here = linked_more c.args.pass.now.1 c.args.entry c.args.code c.args.table c.requires.hand _ called.linked in
    (here.0, λ x. (called.own.0 x, here.1 x))
