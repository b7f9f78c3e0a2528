use Rattle.std.proofs.Common.{◌≡◌, Some, rules}
use Rattle.std.specs.Prelude.{slice_get, codes}
use Rattle.reg_top.specs.inner.RunWords.{read_of}
use Rattle.reg_top.proofs.RunWordsPlans.{behind_run, some_run, none_run}
use Rattle.reg_top.proofs.Forms.{begins_with}
use Rattle.reg_top.proofs.run_words.run_plan.Goals as goal

pub returns-in_err-reading-clause-none : goal.returns-in_err-reading-clause-none
returns-in_err-reading-clause-none c =
    rw c.from_residual.ensures (λ plan form. c.in_err-reading.ensures.none plan (behind_run c.args.words.now plan form))

pub returns-clause-found : goal.returns-clause-found
returns-clause-found c =
    let words = c.args.words.now in
    let first : slice_get words 0 ≡ Some (codes "run") = search rules in
    some_run words (read_of c.in_ok-reading.reading) c.planned.result (begins_with words (codes "run") first) c.in_ok-reading.ensures.found c.planned.ensures.found c.planned.ensures.in_range

pub returns-clause-none : goal.returns-clause-none
returns-clause-none c = none_run c.args.words.now (read_of c.in_ok-reading.reading) c.planned.result c.in_ok-reading.ensures.found c.planned.ensures.none
