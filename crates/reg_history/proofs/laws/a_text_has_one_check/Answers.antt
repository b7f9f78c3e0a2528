use Rattle.reg_history.proofs.check.CheckOutcomes.{one_check}
use Rattle.reg_history.proofs.laws.a_text_has_one_check.Goals as goal

pub returns : goal.returns
returns c = one_check
