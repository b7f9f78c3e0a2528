use Rattle.reg_model.proofs.AccountSteps.{share_row}
use Rattle.reg_model.proofs.laws.accounts_take_a_row_that_changes_nothing.Goals as goal

pub returns : goal.returns
returns c = share_row
