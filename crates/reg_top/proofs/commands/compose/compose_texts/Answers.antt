use Rattle.std.proofs.Common.{[], None, drop, refl, rules}
use Rattle.reg_requests.specs.Lines.{line}
use Rattle.reg_session.specs.Outside.{Outside, outside, sink_view}
use Rattle.reg_top.specs.Fetches.Command.{Compose}
use Rattle.reg_top.proofs.Parts.{untouched_shelf, saved_none, none_fetched, declined_ends, written_ends}
use Rattle.reg_top.proofs.Makings.{compose_makes, compose_declines}
use Rattle.reg_top.proofs.commands.compose.compose_texts.Goals as goal

pub returns-in-Ok : goal.returns-in-Ok
returns-in-Ok g c = λ shelf.
    let texts = drop 1 c.args.words.now in
    let asked = Compose texts in
    written_ends asked _ _ [] c.write_line.result c.written.result (line c.as_bytes.result.now) c.written.ensures c.write_line.ensures.takes c.write_line.ensures.cause
    (none_fetched asked _ _ refl refl) (saved_none asked _ _ [] refl (untouched_shelf shelf _ _))
    (compose_makes texts _ (λ name. None) (record { code = c.in-Ok.code; composed = c.in-Ok.ensures.composed; text = c.as_bytes.result.now; printed = search rules; is = refl }))

pub returns-in-Err : goal.returns-in-Err
returns-in-Err g c = λ shelf.
    let texts = drop 1 c.args.words.now in
    let asked = Compose texts in
    let before : Outside = outside shelf (sink_view (g.K.Sink.taken c.args.sink.now) (g.K.Sink.faults c.args.sink.now)) in
    rw c.declined.ensures.ending (declined_ends asked before _ [] c.in-Err.why (none_fetched asked _ _ refl refl) (untouched_shelf shelf _ _)
    (compose_declines texts before c.in-Err.why c.in-Err.ensures.declines) c.declined.ensures.told)
