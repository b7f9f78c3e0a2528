use Rattle.reg_history.proofs.check.ServingSteps.{all_below_last}
use Rattle.reg_history.proofs.check.serving.all_below.Goals as goal

pub returns-in-len1-up : goal.returns-in-len1-up
returns-in-len1-up c = all_below_last c.args.list.now c.args.id c.last-item.result c.in-len1-up.len_at_least c.last-item.is c.requires
