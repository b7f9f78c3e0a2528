use Rattle.reg_model.proofs.Standing.{lawful_stands}
use Rattle.reg_model.proofs.laws.lawful_rows_stand_in_their_log.Goals as goal

pub returns : goal.returns
returns c = lawful_stands
