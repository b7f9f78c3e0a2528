use Rattle.std.proofs.Common.{[], refl}
use Rattle.reg_model.proofs.RowSteps.{IfSome-weaker}
use Rattle.reg_requests.specs.Lines.{line}
use Rattle.reg_session.specs.Outside.{Outside, outside, shelf_view, sink_view}
use Rattle.reg_top.specs.Fetches.{fetch_of}
use Rattle.reg_top.specs.Fetches.Command.{Check}
use Rattle.reg_top.specs.declared.commands.check.TheConstants.{HISTORY_MOST}
use Rattle.reg_top.proofs.Parts.{saved_none, one_fetched, unread_ends, declined_ends, written_ends}
use Rattle.reg_top.proofs.Makings.{check_makes, check_declines}
use Rattle.reg_top.proofs.commands.check.check_file.Goals as goal

pub returns : goal.returns
returns g c =
    let name = c.args.name.now in
    let file = c.fetch_file.ensures in
    let before : Outside = outside (shelf_view (g.F.Shelf.files c.args.shelf.now) (g.F.Shelf.fetch_faults c.args.shelf.now) (g.F.Shelf.put_faults c.args.shelf.now))
    (sink_view (g.K.Sink.taken c.args.sink.now) (g.K.Sink.faults c.args.sink.now)) in
    let after : Outside = outside (shelf_view (g.F.Shelf.files c.fetch_file.new.shelf) (g.F.Shelf.fetch_faults c.fetch_file.new.shelf) (g.F.Shelf.put_faults c.fetch_file.new.shelf))
    (sink_view (g.K.Sink.taken c.unread.new.sink) (g.K.Sink.faults c.unread.new.sink)) in
    rw c.unread.ensures.ending (unread_ends (Check name) before after [] (fetch_of HISTORY_MOST name) c.in-Err.fault refl c.in-Err.ensures.told c.in-Err.ensures.cause
    (record { files = file.same; puts = file.puts }) c.unread.ensures.told)

pub returns-in-Ok-lawful_line : goal.returns-in-Ok-lawful_line
returns-in-Ok-lawful_line g c =
    let name = c.args.name.now in
    let bytes = c.in-Ok.file.items in
    let file = c.fetch_file.ensures in
    let made = rw c.as_slice.ensures.value at c.in-Ok-lawful_line.ensures.made in
    let unfaulty = rw c.as_slice.ensures.value at c.in-Ok-lawful_line.ensures.unfaulty in
    let before : Outside = outside (shelf_view (g.F.Shelf.files c.args.shelf.now) (g.F.Shelf.fetch_faults c.args.shelf.now) (g.F.Shelf.put_faults c.args.shelf.now))
    (sink_view (g.K.Sink.taken c.args.sink.now) (g.K.Sink.faults c.args.sink.now)) in
    written_ends (Check name) before _ [] c.write_line.result c.written.result (line c.as_slice-in-Ok-lawful_line.result.now) c.written.ensures c.write_line.ensures.takes c.write_line.ensures.cause
    (one_fetched (Check name) before _ (fetch_of HISTORY_MOST name) bytes refl c.in-Ok.ensures.held c.in-Ok.ensures.within c.in-Ok.ensures.quiet)
    (saved_none (Check name) before _ [] refl (record { files = file.same; puts = file.puts }))
    (IfSome-weaker _ _ (λ files held. rw (c.as_slice-in-Ok-lawful_line.ensures.value, made.3) (check_makes name bytes files made.0 made.1 unfaulty made.2 held)) (g.F.Shelf.files c.args.shelf.now) c.in-Ok.ensures.held)

pub returns-in-Ok : goal.returns-in-Ok
returns-in-Ok g c =
    let name = c.args.name.now in
    let bytes = c.in-Ok.file.items in
    let why = c.in-Err-lawful_line.why in
    let file = c.fetch_file.ensures in
    let declines = rw c.as_slice.ensures.value at c.in-Err-lawful_line.ensures.declines in
    let before : Outside = outside (shelf_view (g.F.Shelf.files c.args.shelf.now) (g.F.Shelf.fetch_faults c.args.shelf.now) (g.F.Shelf.put_faults c.args.shelf.now))
    (sink_view (g.K.Sink.taken c.args.sink.now) (g.K.Sink.faults c.args.sink.now)) in
    rw c.declined.ensures.ending (declined_ends (Check name) before _ [] why
    (one_fetched (Check name) before _ (fetch_of HISTORY_MOST name) bytes refl c.in-Ok.ensures.held c.in-Ok.ensures.within c.in-Ok.ensures.quiet)
    (record { files = file.same; puts = file.puts })
    (check_declines name bytes before why c.in-Ok.ensures.held declines) c.declined.ensures.told)
