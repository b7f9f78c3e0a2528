use Rattle.reg_commit.proofs.Trials.{front_behind}
use Rattle.reg_commit.proofs.tests.declaring.finds.Goals as goal

pub returns : goal.returns
returns c =
    let called = c.front.ensures in
    let here = front_behind c.args.pass.now.1 _ _ c.args.place called.found c.if-front-place.false c.requires.next in
    (here.0, λ x. (called.own.0 x, here.1 x))
