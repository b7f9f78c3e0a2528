use Rattle.reg_model.proofs.SessionAccounts.{kept_account}
use Rattle.reg_model.proofs.laws.a_merge_keeps_each_account.Goals as goal

pub returns : goal.returns
returns c = kept_account
