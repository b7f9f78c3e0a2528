use Rattle.reg_commit.proofs.Trials.{may_be_late, is_late}
use Rattle.reg_commit.proofs.tests.declaring.is_late.Goals as goal

pub commit-requires-clause-record : goal.commit-requires-clause-record
commit-requires-clause-record c = may_be_late c.args.words.now c.args.pass.now c.requires.ready _ c.in_ok-meta.ensures

pub returns : goal.returns
returns c =
    let lost = c.in-Err.ensures.lost.1 in
    is_late c.args.words.now c.args.pass.now c.requires.ready _ lost.0 _ c.if-lost-ne1.false lost.1 lost.2
