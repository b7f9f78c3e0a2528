use Rattle.reg_model.proofs.AccountSteps.{empty_share}
use Rattle.reg_model.proofs.laws.empty_accounts_share_the_empty_log.Goals as goal

pub returns : goal.returns
returns c = empty_share
