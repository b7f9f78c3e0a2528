use Rattle.reg_sweep.proofs.Trials.{finds_live}
use Rattle.reg_sweep.proofs.tests.withdrawing.finds_live.Goals as goal

pub returns : goal.returns
returns c =
    let front = c.front.ensures in let loaded = c.load_stamp.ensures in
    let here = finds_live _ _ _ _ _ _ (λ j. (c.requires.new j).1) (λ j. (c.pin.ensures j).1) front.found c.if-front-ne0.false loaded.told c.if-load_stamp-ne4294967296.false in
    (here.0, λ x. (loaded.own.0 x, here.1 x))
