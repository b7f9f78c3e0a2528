use Rattle.reg_top.proofs.LoneRuns.{lone_runs}
use Rattle.reg_top.proofs.laws.words_of_lone_sessions_have_one_output.Goals as goal

pub returns : goal.returns
returns c = lone_runs
