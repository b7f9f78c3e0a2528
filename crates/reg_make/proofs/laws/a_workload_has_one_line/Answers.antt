use Rattle.reg_make.proofs.WorkCounts.{tells_counts}
use Rattle.reg_make.proofs.laws.a_workload_has_one_line.Goals as goal

pub returns : goal.returns
returns c = tells_counts
