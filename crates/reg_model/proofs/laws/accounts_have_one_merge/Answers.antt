use Rattle.reg_model.proofs.OneMerge.{one_merge}
use Rattle.reg_model.proofs.laws.accounts_have_one_merge.Goals as goal

pub returns : goal.returns
returns c = one_merge
