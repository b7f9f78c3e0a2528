use Rattle.std.proofs.Common.{refl}
use Rattle.reg_make.specs.Workloads.{work_limits, first_calls}
use Rattle.reg_make.proofs.Beginning.{begins_behind}
use Rattle.reg_make.proofs.serving.serve_work.Goals as goal

pub serve_second-requires-clause-begins : goal.serve_second-requires-clause-begins
serve_second-requires-clause-begins g c κs within =
    let work = c.args.work.now in
    begins_behind work 1 (work_limits work work.sessions) (first_calls work) c.in_ok-first.first c.centre_bodies.ensures.range refl c.in_ok-first.ensures.served

pub returns-clause-second_begins : goal.returns-clause-second_begins
returns-clause-second_begins g c =
    let work = c.args.work.now in
    begins_behind work 1 (work_limits work work.sessions) (first_calls work) c.in_ok-first.first c.centre_bodies.ensures.range refl c.in_ok-first.ensures.served
