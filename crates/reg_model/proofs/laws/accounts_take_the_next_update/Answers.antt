use Rattle.reg_model.proofs.AccountSteps.{share_update}
use Rattle.reg_model.proofs.laws.accounts_take_the_next_update.Goals as goal

pub returns : goal.returns
returns c = share_update
