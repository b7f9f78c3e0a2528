use Rattle.std.proofs.Common.{[], inl, inr, refl, sym, subst, arith}
use Rattle.reg_session.specs.Outside.{Outside, outside, shelf_view, sink_view}
use Rattle.reg_top.specs.Outcomes.{IsOutcome, IsServedStatus}
use Rattle.reg_top.specs.Fetches.Command.{Run}
use Rattle.reg_top.proofs.Forms.{no_run}
use Rattle.reg_top.proofs.PlannedRuns.{may_be_run}
use Rattle.reg_top.proofs.Endings.{words_outcome, command_outcome, served_at}
use Rattle.reg_top.proofs.commands.run.run_command.Goals as goal

pub run-requires-clause-plan : goal.run-requires-clause-plan
run-requires-clause-plan g c κs within = may_be_run c.args.words.now c.in-Some.plan c.in-Some.ensures.found

pub returns-in-Some : goal.returns-in-Some
returns-in-Some g c =
    let words = c.args.words.now in
    let ends = c.run.ensures in
    let before : Outside = outside (shelf_view (g.F.Shelf.files c.args.shelf.now) (g.F.Shelf.fetch_faults c.args.shelf.now) (g.F.Shelf.put_faults c.args.shelf.now)) (sink_view (g.K.Sink.taken c.args.sink.now) (g.K.Sink.faults c.args.sink.now)) in
    let after : Outside = outside (shelf_view (g.F.Shelf.files c.run.new.shelf) (g.F.Shelf.fetch_faults c.run.new.shelf) (g.F.Shelf.put_faults c.run.new.shelf)) (sink_view (g.K.Sink.taken c.run.new.sink) (g.K.Sink.faults c.run.new.sink)) in (
      ends.0,
      subst (IsOutcome words before after ends.0) (sym c.number.ensures)
          (command_outcome words (Run c.in-Some.plan) before after ends.0 c.run.result c.in-Some.ensures.found ends.1),
      λ served. ends.2 (served_at c.run.result (subst IsServedStatus c.number.ensures served)),
    )

pub returns-in-None : goal.returns-in-None
returns-in-None g c =
    let words = c.args.words.now in
    let before : Outside = outside (shelf_view (g.F.Shelf.files c.args.shelf.now) (g.F.Shelf.fetch_faults c.args.shelf.now) (g.F.Shelf.put_faults c.args.shelf.now)) (sink_view (g.K.Sink.taken c.args.sink.now) (g.K.Sink.faults c.args.sink.now)) in
    let after : Outside = outside (shelf_view (g.F.Shelf.files c.args.shelf.now) (g.F.Shelf.fetch_faults c.args.shelf.now) (g.F.Shelf.put_faults c.args.shelf.now)) (sink_view (g.K.Sink.taken c.no_form.new.sink) (g.K.Sink.faults c.no_form.new.sink)) in (
      [],
      subst (IsOutcome words before after []) (sym c.no_form.ensures.status)
          (words_outcome words before after [] (no_run words c.in-None.ensures.none c.requires.made c.requires.other) refl c.no_form.ensures.told),
      λ served. absurd (elim served [ inl zero ↦ omega (arith, zero, c.no_form.ensures.status) | inr high ↦ omega (arith, high.0, c.no_form.ensures.status) ]),
    )
