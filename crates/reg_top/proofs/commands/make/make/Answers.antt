use Rattle.std.proofs.Common.{List, None, [], refl, ◌∙◌}
use Rattle.reg_model.specs.Runs.{RoundRows}
use Rattle.reg_session.specs.Outside.{outside, sink_view}
use Rattle.reg_top.specs.declared.ending.Declined.TheVariants as declines
use Rattle.reg_top.specs.Fetches.Command.{Make}
use Rattle.reg_top.specs.commands.Make.{IsMakeOutput}
use Rattle.reg_top.proofs.MadeRounds.{HasServed, work_rows, work_output, seals_kept, both_kept}
use Rattle.reg_top.proofs.Makings.{make_makes}
use Rattle.reg_top.proofs.Parts.{untouched_shelf, saved_none, none_fetched, declined_ends, written_ends}
use Rattle.reg_top.proofs.commands.make.make.Goals as goal

pub returns-in-Err : goal.returns-in-Err
returns-in-Err g c = (
  [],
  λ shelf.
      rw c.declined.ensures.ending (declined_ends (Make c.args.work.now) (outside shelf (sink_view (g.K.Sink.taken c.args.sink.now) (g.K.Sink.faults c.args.sink.now))) _ [] declines.NoMemory
      (none_fetched (Make c.args.work.now) _ _ refl refl) (untouched_shelf shelf _ _) tt c.declined.ensures.told),
  λ served. absurd (rw c.declined.ensures.ending at served),
)

pub returns-in-Ok-counts_line : goal.returns-in-Ok-counts_line
returns-in-Ok-counts_line g c =
    let asked = Make c.args.work.now in
    let run = c.in-Ok.run' in
    let has : HasServed c.args.work.now run.first run.second =
    record { is = c.requires.range; one = c.in-Ok.ensures.first; two = c.in-Ok.ensures.second; one_begins = c.in-Ok.ensures.first_begins; two_begins = c.in-Ok.ensures.second_begins } in
    let served : List RoundRows = work_rows c.args.work.now run.first run.second has in
    let output : IsMakeOutput c.args.work.now served c.as_slice.result.now =
    work_output c.args.work.now run.first run.second has c.count_work-counts.result c.as_slice.result.now (c.count_work-counts.ensures.told c.args.work.now has.is has.one has.two)
    (c.as_slice.ensures.value ∙ c.in-Ok-counts_line.ensures) in (
      served,
      λ shelf.
          written_ends asked (outside shelf (sink_view (g.K.Sink.taken c.args.sink.now) (g.K.Sink.faults c.args.sink.now))) _ served c.write_all.result c.written.result c.as_slice.result.now c.written.ensures
          c.write_all.ensures.takes c.write_all.ensures.cause (none_fetched asked _ _ refl refl) (saved_none asked _ _ served refl (untouched_shelf shelf _ _)) (make_makes c.args.work.now (λ name. None) served _ output),
      λ _.
          both_kept c.requires.empty c.keep.ensures c.keep-2.ensures c.in-Ok.ensures.first_seal c.in-Ok.ensures.second_seal
          ∙ seals_kept c.args.work.now run.first run.second has,
    )

pub returns : goal.returns
returns g c = (
  [],
  λ shelf.
      rw c.declined-in-Err-counts_line.ensures.ending (declined_ends (Make c.args.work.now) (outside shelf (sink_view (g.K.Sink.taken c.args.sink.now) (g.K.Sink.faults c.args.sink.now))) _ [] declines.NoMemory
      (none_fetched (Make c.args.work.now) _ _ refl refl) (untouched_shelf shelf _ _) tt c.declined-in-Err-counts_line.ensures.told),
  λ served. absurd (rw c.declined-in-Err-counts_line.ensures.ending at served),
)
