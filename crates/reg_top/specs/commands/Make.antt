-- `make SEED N S`: what it writes.
use Rattle.std.specs.Prelude.{◌≡◌, ℕ, List, [], ◌∷◌, codes}
use Rattle.std.specs.Fmt.{decimal}
use Rattle.reg_model.specs.Runs.{RoundRows}
use Rattle.reg_requests.specs.Lines.{line, spaced}
use Rattle.reg_make.specs.declared.counts.Counts.{Counts}
use Rattle.reg_make.specs.Workloads.{Work, IsWorkRun, counted}

-- the text of some counts
abbrev pub counts_text : Counts → List ℕ
counts_text counts = spaced (codes "made" ∷ codes "calls" ∷ decimal counts.calls ∷ codes "accepted" ∷ decimal counts.accepted ∷ codes "live" ∷ decimal counts.live ∷ codes "hits" ∷ decimal counts.hits ∷ [])

-- The output is the line with the counts of the rows of these rounds, which are a lawful run of the workload.
pub record IsMakeOutput (work : Work) (rounds : List RoundRows) (output : List ℕ) : Type 0 where
  pub made : IsWorkRun work rounds
  pub text : output ≡ line (counts_text (counted rounds))
