use Rattle.std.proofs.Common.{sym, subst}
use Rattle.reg_session.specs.Outside.{Outside, outside, shelf_view, sink_view}
use Rattle.reg_top.specs.Fetches.Command.{Make}
use Rattle.reg_top.specs.Outcomes.{IsOutcome, IsServedStatus}
use Rattle.reg_top.proofs.Endings.{command_outcome, served_at}
use Rattle.reg_top.proofs.serving.serving.Goals as goal

pub make-requires-clause-range : goal.make-requires-clause-range
make-requires-clause-range g c κs within = c.in-Some.ensures.found.in_range

pub returns-in-Some : goal.returns-in-Some
returns-in-Some g c =
    let words = c.args.words.now in
    let ends = c.make.ensures in
    let before : Outside = outside (shelf_view (g.F.Shelf.files c.args.shelf.now) (g.F.Shelf.fetch_faults c.args.shelf.now) (g.F.Shelf.put_faults c.args.shelf.now)) (sink_view (g.K.Sink.taken c.args.sink.now) (g.K.Sink.faults c.args.sink.now)) in
    let after : Outside = outside before.shelf (sink_view (g.K.Sink.taken c.make.new.sink) (g.K.Sink.faults c.make.new.sink)) in (
      ends.0,
      subst (IsOutcome words before after ends.0) (sym c.number.ensures)
          (command_outcome words (Make c.in-Some.work) before after ends.0 c.make.result c.in-Some.ensures.found (ends.1 before.shelf)),
      λ served. ends.2 (served_at c.make.result (subst IsServedStatus c.number.ensures served)),
    )
