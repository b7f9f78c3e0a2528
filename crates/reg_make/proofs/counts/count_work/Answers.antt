use Rattle.std.proofs.Common.{◌∙◌, ap}
use Rattle.reg_make.specs.Counting.{capped}
use Rattle.reg_make.specs.Workloads.{work_counts}
use Rattle.reg_make.proofs.ServedCounts.{told_counts, counts_fit, capped_fit}
use Rattle.reg_make.proofs.counts.count_work.Goals as goal

pub returns-clause-told : goal.returns-clause-told
returns-clause-told c = λ work is one two.
    let told = told_counts work c.args.first.now c.args.second.now is one two in
    c.count_rounds.ensures ∙ ap capped told ∙ capped_fit (work_counts work) (counts_fit work is)
