use Rattle.reg_sweep.proofs.Seizes.{held_one, moved_one}
use Rattle.reg_sweep.proofs.seizing.try_seize.Goals as goal

pub returns-then-found-eq1-clause-tried : goal.returns-then-found-eq1-clause-tried
returns-then-found-eq1-clause-tried c =
    held_one c.args.pass.now.1 c.swap_sweep-found.new.pass.1 _ _ c.swap_sweep-found.ensures.told c.if-found-eq1.true

pub returns-clause-tried : goal.returns-clause-tried
returns-clause-tried c =
    moved_one c.args.pass.now.1 c.swap_sweep-found.new.pass.1 _ _ c.swap_sweep-found.ensures.told c.if-found-old.false c.if-found-eq1.false
