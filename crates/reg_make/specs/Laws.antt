-- What workloads tell.
use Rattle.std.specs.Prelude.{◌≡◌, List}
use Rattle.reg_model.specs.Runs.{RoundRows}
use Rattle.reg_make.specs.Workloads.{Work, IsWork, IsWorkRun, counted, work_counts}

-- the rows of a workload have its counts in every order in which they can be served
abbrev pub WorkTellsCounts : Type 0
WorkTellsCounts = (work : Work) (rounds : List RoundRows) → IsWork work → IsWorkRun work rounds → counted rounds ≡ work_counts work
