use Rattle.std.proofs.Common.{[], None, refl}
use Rattle.reg_requests.specs.Lines.{line}
use Rattle.reg_session.specs.Outside.{Outside, outside, sink_view}
use Rattle.reg_top.specs.Fetches.Command.{Explain}
use Rattle.reg_top.proofs.Parts.{untouched_shelf, saved_none, none_fetched, declined_ends, written_ends}
use Rattle.reg_top.proofs.Makings.{explain_makes, explain_declines}
use Rattle.reg_top.proofs.commands.explain.explain_text.Goals as goal

pub returns-in-Ok : goal.returns-in-Ok
returns-in-Ok g c = λ shelf.
    let asked = Explain c.args.text.now in
    written_ends asked _ _ [] c.write_line.result c.written.result (line c.as_bytes.result.now) c.written.ensures c.write_line.ensures.takes c.write_line.ensures.cause
    (none_fetched asked _ _ refl refl) (saved_none asked _ _ [] refl (untouched_shelf shelf _ _)) (explain_makes c.args.text.now _ (λ name. None) (rw c.as_bytes.ensures.value c.in-Ok.ensures.made))

pub returns-in-Err : goal.returns-in-Err
returns-in-Err g c = λ shelf.
    let asked = Explain c.args.text.now in
    let before : Outside = outside shelf (sink_view (g.K.Sink.taken c.args.sink.now) (g.K.Sink.faults c.args.sink.now)) in
    rw c.declined.ensures.ending (declined_ends asked before _ [] c.in-Err.why (none_fetched asked _ _ refl refl) (untouched_shelf shelf _ _)
    (explain_declines c.args.text.now before c.in-Err.why c.in-Err.ensures.declines) c.declined.ensures.told)
