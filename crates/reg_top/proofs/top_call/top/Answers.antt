use Rattle.std.proofs.Common.{[], inl, inr}
use Rattle.reg_requests.specs.Words.{line_words}
use Rattle.reg_requests.proofs.TakenIsccs.{takes_iscc}
use Rattle.reg_top.specs.Fetches.Command.{Run, Make}
use Rattle.reg_session.specs.Outside.{Outside, outside, shelf_view, sink_view}
use Rattle.reg_top.specs.Outcomes.{Writes}
use Rattle.reg_top.proofs.LoneRuns.{lone_taken}
use Rattle.reg_top.proofs.top_call.top.Goals as goal

pub returns-in-Some-clause-run : goal.returns-in-Some-clause-run
returns-in-Some-clause-run g c = λ plan form done.
    let ends = c.in-Some.ensures.outcome.ends (Run plan) form in
    let all = ends.done done in
    ([], all.0, all.1, c.requires)

pub returns-in-None-clause-run : goal.returns-in-None-clause-run
returns-in-None-clause-run g c = λ plan form done.
    let same = c.in-None.ensures.untouched in
    let outcome = c.serving.ensures in
    let ends = outcome.1.ends (Run plan) form in
    let all = ends.done done in
    (outcome.0, rw (← same.0, ← same.1) all.0, rw (← same.0) all.1, outcome.2 (inl done))

pub returns-in-Some-clause-make : goal.returns-in-Some-clause-make
returns-in-Some-clause-make g c = λ work form done. let ends = c.in-Some.ensures.outcome.ends (Make work) form in ([], (ends.done done).0, c.requires)

pub returns-in-None-clause-make : goal.returns-in-None-clause-make
returns-in-None-clause-make g c = λ work form done.
    let same = c.in-None.ensures.untouched in
    let outcome = c.serving.ensures in
    let ends = outcome.1.ends (Make work) form in
    let all = ends.done done in
    (outcome.0, rw (← same.1) all.0, outcome.2 (inl done))

pub returns-in-Some-clause-refused : goal.returns-in-Some-clause-refused
returns-in-Some-clause-refused g c = λ plan form high. let ends = c.in-Some.ensures.outcome.ends (Run plan) form in ([], ends.refused high, c.requires)

pub returns-in-None-clause-refused : goal.returns-in-None-clause-refused
returns-in-None-clause-refused g c = λ plan form high.
    let same = c.in-None.ensures.untouched in
    let outcome = c.serving.ensures in
    let ends = outcome.1.ends (Run plan) form in
    (outcome.0, rw (← same.0, ← same.1) (ends.refused high), outcome.2 (inr high))

pub returns-in-Some-clause-lone : goal.returns-in-Some-clause-lone
returns-in-Some-clause-lone g c = λ plan form done.
    let before : Outside = outside (shelf_view (g.F.Shelf.files c.args.shelf.now) (g.F.Shelf.fetch_faults c.args.shelf.now) (g.F.Shelf.put_faults c.args.shelf.now)) (sink_view (g.K.Sink.taken c.args.sink.now) (g.K.Sink.faults c.args.sink.now)) in
    let after : Outside = outside (shelf_view (g.F.Shelf.files c.side.new.shelf) (g.F.Shelf.fetch_faults c.side.new.shelf) (g.F.Shelf.put_faults c.side.new.shelf)) (sink_view (g.K.Sink.taken c.side.new.sink) (g.K.Sink.faults c.side.new.sink)) in
    let ends = c.in-Some.ensures.outcome.ends (Run plan) form in
    let all = ends.done done in
    lone_taken c.args.words.now plan before after [] form all.0

pub returns-in-None-clause-lone : goal.returns-in-None-clause-lone
returns-in-None-clause-lone g c = λ plan form done.
    let before : Outside = outside (shelf_view (g.F.Shelf.files c.args.shelf.now) (g.F.Shelf.fetch_faults c.args.shelf.now) (g.F.Shelf.put_faults c.args.shelf.now)) (sink_view (g.K.Sink.taken c.args.sink.now) (g.K.Sink.faults c.args.sink.now)) in
    let after : Outside =
    outside (shelf_view (g.F.Shelf.files c.serving.new.shelf) (g.F.Shelf.fetch_faults c.serving.new.shelf) (g.F.Shelf.put_faults c.serving.new.shelf)) (sink_view (g.K.Sink.taken c.serving.new.sink) (g.K.Sink.faults c.serving.new.sink)) in
    let same = c.in-None.ensures.untouched in
    let outcome = c.serving.ensures in
    let ends = outcome.1.ends (Run plan) form in
    let all = ends.done done in
    let writes : Writes (Run plan) before after outcome.0 = rw (← same.0, ← same.1) all.0 in
    lone_taken c.args.words.now plan before after outcome.0 form writes

pub returns-in-Some-clause-text : goal.returns-in-Some-clause-text
returns-in-Some-clause-text g c = λ line text read reads has. takes_iscc (line_words line) text read has reads

pub returns-in-None-clause-text : goal.returns-in-None-clause-text
returns-in-None-clause-text g c = λ line text read reads has. takes_iscc (line_words line) text read has reads

pub returns-in-Some-clause-outcome : goal.returns-in-Some-clause-outcome
returns-in-Some-clause-outcome g c = ([], c.in-Some.ensures.outcome)

pub returns-in-None-clause-outcome : goal.returns-in-None-clause-outcome
returns-in-None-clause-outcome g c =
    let same = c.in-None.ensures.untouched in
    let outcome = c.serving.ensures in
    (outcome.0, rw (← same.0, ← same.1) outcome.1)
