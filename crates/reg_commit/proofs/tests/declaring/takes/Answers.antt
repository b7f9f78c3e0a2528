use Rattle.reg_commit.proofs.Trials.{taken_is}
use Rattle.reg_commit.proofs.tests.declaring.takes.Goals as goal

pub returns : goal.returns
returns c =
    let called = c.in-Ok.ensures in let here = taken_is c.args.pass.now.1 _ _ c.args.entry called.took c.if-taken-entry.false in
    (here.0, λ x. (called.own.0 x, here.1 x))
