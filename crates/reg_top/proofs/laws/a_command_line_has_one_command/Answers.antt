use Rattle.reg_top.proofs.Forms.{one_form}
use Rattle.reg_top.proofs.laws.a_command_line_has_one_command.Goals as goal

pub returns : goal.returns
returns c = one_form
