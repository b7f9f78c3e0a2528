use Rattle.reg_history.proofs.lines.RunsBack.{same_run}
use Rattle.reg_history.proofs.laws.a_history_text_has_one_run.Goals as goal

pub returns : goal.returns
returns c = same_run
