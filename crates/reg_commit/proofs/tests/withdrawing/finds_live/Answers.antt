use Rattle.reg_commit.proofs.TrialsWithdrawn.{finds_live}
use Rattle.reg_commit.proofs.tests.withdrawing.finds_live.Goals as goal

pub returns : goal.returns
returns c =
    let loaded = c.load_stamp.ensures in let front = c.in_ok-finds.ensures in
    let here = finds_live c.args.seat _ _ _ _ _ front.0 (λ j. (c.requires.new j).1) (λ j. (c.pin.ensures j).1) (λ j. (front.1 j).1) loaded.told c.if-load_stamp-ne4294967296.false in
    (here.0, λ x. (loaded.own.0 x, here.1 x))
