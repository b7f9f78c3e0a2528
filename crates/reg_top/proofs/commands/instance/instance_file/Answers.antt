use Rattle.std.proofs.Common.{◌≡◌, [], refl, rules}
use Rattle.reg_model.proofs.RowSteps.{IfSome-weaker}
use Rattle.reg_requests.specs.Lines.{line}
use Rattle.iscc_text.specs.UnitText.{unit_text}
use Rattle.iscc_instance.specs.Instances.{instance_of}
use Rattle.reg_session.specs.Outside.{Outside, outside, shelf_view, sink_view}
use Rattle.reg_top.specs.Fetches.{fetch_of}
use Rattle.reg_top.specs.Fetches.Command.{Instance}
use Rattle.reg_top.specs.declared.commands.instance.TheConstants.{HASHED_MOST}
use Rattle.reg_top.proofs.Parts.{saved_none, one_fetched, unread_ends, written_ends}
use Rattle.reg_top.proofs.Makings.{instance_makes}
use Rattle.reg_top.proofs.commands.instance.instance_file.Goals as goal

pub returns-in-Err : goal.returns-in-Err
returns-in-Err g c =
    let name = c.args.name.now in
    let file = c.fetch_file.ensures in
    let before : Outside = outside (shelf_view (g.F.Shelf.files c.args.shelf.now) (g.F.Shelf.fetch_faults c.args.shelf.now) (g.F.Shelf.put_faults c.args.shelf.now))
    (sink_view (g.K.Sink.taken c.args.sink.now) (g.K.Sink.faults c.args.sink.now)) in
    let after : Outside = outside (shelf_view (g.F.Shelf.files c.fetch_file.new.shelf) (g.F.Shelf.fetch_faults c.fetch_file.new.shelf) (g.F.Shelf.put_faults c.fetch_file.new.shelf))
    (sink_view (g.K.Sink.taken c.unread.new.sink) (g.K.Sink.faults c.unread.new.sink)) in
    rw c.unread.ensures.ending (unread_ends (Instance name) before after [] (fetch_of HASHED_MOST name) c.in-Err.fault refl c.in-Err.ensures.told c.in-Err.ensures.cause
    (record { files = file.same; puts = file.puts }) c.unread.ensures.told)

pub returns-in-Ok : goal.returns-in-Ok
returns-in-Ok g c =
    let name = c.args.name.now in
    let bytes = c.in-Ok.file.items in
    let file = c.fetch_file.ensures in
    let text : c.as_bytes.result.now ≡ unit_text (instance_of bytes) = search rules in
    let before : Outside = outside (shelf_view (g.F.Shelf.files c.args.shelf.now) (g.F.Shelf.fetch_faults c.args.shelf.now) (g.F.Shelf.put_faults c.args.shelf.now))
    (sink_view (g.K.Sink.taken c.args.sink.now) (g.K.Sink.faults c.args.sink.now)) in
    written_ends (Instance name) before _ [] c.write_line.result c.written.result (line c.as_bytes.result.now) c.written.ensures c.write_line.ensures.takes c.write_line.ensures.cause
    (one_fetched (Instance name) before _ (fetch_of HASHED_MOST name) bytes refl c.in-Ok.ensures.held c.in-Ok.ensures.within c.in-Ok.ensures.quiet)
    (saved_none (Instance name) before _ [] refl (record { files = file.same; puts = file.puts }))
    (IfSome-weaker _ _ (λ files held. rw text (instance_makes name bytes files held)) (g.F.Shelf.files c.args.shelf.now) c.in-Ok.ensures.held)
