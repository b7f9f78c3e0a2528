use Rattle.reg_model.proofs.LoneRounds.{lone_round}
use Rattle.reg_model.proofs.laws.a_lone_round_has_one_list_of_rows.Goals as goal

pub returns : goal.returns
returns c = lone_round
