use Rattle.reg_history.proofs.check.ServingSteps.{comes_after}
use Rattle.reg_history.proofs.check.serving.is_after.Goals as goal

pub returns : goal.returns
returns c = comes_after c.args.last.now c.args.row.now c.is_lt.result c.cmp.result c.is_lt.ensures c.cmp.ensures
