use Rattle.std.proofs.Common.{Vec, Global, ℕ, [], subst}
use Rattle.std.specs.Option.{option_map}
use Rattle.reg_session.specs.Outside.{ShelfView, Outside, outside, shelf_view, sink_view}
use Rattle.reg_top.specs.Fetches.{fetches}
use Rattle.reg_top.specs.Fetches.Command.{Run}
use Rattle.reg_top.specs.inner.RunEndings.{FinishesAs}
use Rattle.reg_top.specs.inner.RunFiles.{AreUnread}
use Rattle.reg_top.proofs.RunEnds.{run_given, same_shelf, memory_wanting, run_declined, run_finished}
use Rattle.reg_top.proofs.RunFiles.{fit_rounds, first_unread}
use Rattle.reg_top.proofs.commands.run.run.Goals as goal

pub make-requires-clause-lists : goal.make-requires-clause-lists
make-requires-clause-lists g c κs within = fit_rounds (g.F.Shelf.files c.args.shelf.now) c.args.plan.now.rounds c.in-Ok.given.lists c.requires.plan c.in-Ok.ensures.read

pub returns-in-Ok-make : goal.returns-in-Ok-make
returns-in-Ok-make g c =
    let shelf = g.F.Shelf in
    let sink = g.K.Sink in
    let plan = c.args.plan.now in
    let image = option_map (λ (bytes : Vec ℕ Global). bytes.items) c.in-Ok.given.image in
    let lists = c.in-Ok.given.lists in
    let output = c.in-Ok-make.made.output.items in
    let saved = option_map (λ (bytes : Vec ℕ Global). bytes.items) c.in-Ok-make.made.image in
    let first : ShelfView = shelf_view (shelf.files c.args.shelf.now) (shelf.fetch_faults c.args.shelf.now) (shelf.put_faults c.args.shelf.now) in
    let same = same_shelf c.in-Ok.ensures.same c.in-Ok.ensures.quiet c.in-Ok.ensures.puts in
    let before : Outside = outside first (sink_view (sink.taken c.args.sink.now) (sink.faults c.args.sink.now)) in
    let after : Outside =
    outside (shelf_view (shelf.files c.finish.new.shelf) (shelf.fetch_faults c.finish.new.shelf) (shelf.put_faults c.finish.new.shelf)) (sink_view (sink.taken c.finish.new.sink) (sink.faults c.finish.new.sink)) in
    run_finished plan image lists c.make.new.seals output saved before after
    (run_given plan image lists first c.requires.plan c.in-Ok.ensures.image c.in-Ok.ensures.read) c.in-Ok-make.ensures.made c.finish.result
    (subst (λ (s : ShelfView). FinishesAs plan.save saved output (outside s (sink_view (sink.taken c.args.sink.now) (sink.faults c.args.sink.now))) after c.finish.result) same c.finish.ensures)

pub returns-in-Ok : goal.returns-in-Ok
returns-in-Ok g c =
    let shelf = g.F.Shelf in
    let sink = g.K.Sink in
    let plan = c.args.plan.now in
    let image = option_map (λ (bytes : Vec ℕ Global). bytes.items) c.in-Ok.given.image in
    let lists = c.in-Ok.given.lists in
    let first : ShelfView = shelf_view (shelf.files c.args.shelf.now) (shelf.fetch_faults c.args.shelf.now) (shelf.put_faults c.args.shelf.now) in
    let left : ShelfView = shelf_view (shelf.files c.read_given.new.shelf) (shelf.fetch_faults c.read_given.new.shelf) (shelf.put_faults c.read_given.new.shelf) in
    let same = same_shelf c.in-Ok.ensures.same c.in-Ok.ensures.quiet c.in-Ok.ensures.puts in
    let before : Outside = outside first (sink_view (sink.taken c.args.sink.now) (sink.faults c.args.sink.now)) in
    let after : Outside = outside left (sink_view (sink.taken c.declined.new.sink) (sink.faults c.declined.new.sink)) in
    rw c.declined.ensures.ending
    (run_declined plan image lists before after c.make.new.seals c.in-Err.why
    (run_given plan image lists first c.requires.plan c.in-Ok.ensures.image c.in-Ok.ensures.read) same c.in-Err.ensures.why c.declined.ensures.told)

pub returns-in-Err-File : goal.returns-in-Err-File
returns-in-Err-File g c =
    let shelf = g.F.Shelf in
    let sink = g.K.Sink in
    let plan = c.args.plan.now in
    let name = c.in-Err-File.name.now in
    let first =
    subst (AreUnread (shelf.files c.args.shelf.now) (shelf.fetch_faults c.args.shelf.now) (shelf.fetch_faults c.read_given.new.shelf) (fetches (Run plan)))
    c.in-Err-File.field-0-is c.in-Err-File.ensures.why in
    let told = rw (c.in-Err-File.name-is, c.in-Err-File.fault-is) at c.unread.ensures.told in
    let ending = rw c.in-Err-File.fault-is at c.unread.ensures.ending in
    let before : Outside =
    outside (shelf_view (shelf.files c.args.shelf.now) (shelf.fetch_faults c.args.shelf.now) (shelf.put_faults c.args.shelf.now)) (sink_view (sink.taken c.args.sink.now) (sink.faults c.args.sink.now)) in
    let after : Outside =
    outside (shelf_view (shelf.files c.read_given.new.shelf) (shelf.fetch_faults c.read_given.new.shelf) (shelf.put_faults c.read_given.new.shelf)) (sink_view (sink.taken c.unread.new.sink) (sink.faults c.unread.new.sink)) in (
      [],
      rw ending (first_unread plan before after [] name c.in-Err-File.fault first (record { files = c.in-Err-File.ensures.same; puts = c.in-Err-File.ensures.puts }) told),
      λ done. absurd (rw ending at done),
    )

pub returns : goal.returns
returns g c =
    let shelf = g.F.Shelf in
    let sink = g.K.Sink in
    let plan = c.args.plan.now in
    let quiet =
    subst (AreUnread (shelf.files c.args.shelf.now) (shelf.fetch_faults c.args.shelf.now) (shelf.fetch_faults c.read_given.new.shelf) (fetches (Run plan)))
    c.in-Err-NoMemory.field-0-is c.in-Err-NoMemory.ensures.why in
    let same = same_shelf c.in-Err-NoMemory.ensures.same quiet c.in-Err-NoMemory.ensures.puts in
    let before : Outside =
    outside (shelf_view (shelf.files c.args.shelf.now) (shelf.fetch_faults c.args.shelf.now) (shelf.put_faults c.args.shelf.now)) (sink_view (sink.taken c.args.sink.now) (sink.faults c.args.sink.now)) in
    let after : Outside =
    outside (shelf_view (shelf.files c.read_given.new.shelf) (shelf.fetch_faults c.read_given.new.shelf) (shelf.put_faults c.read_given.new.shelf)) (sink_view (sink.taken c.declined-in-Err-NoMemory.new.sink) (sink.faults c.declined-in-Err-NoMemory.new.sink)) in (
      [],
      rw c.declined-in-Err-NoMemory.ensures.ending (memory_wanting before after same c.declined-in-Err-NoMemory.ensures.told),
      λ done. absurd (let is = c.declined-in-Err-NoMemory.ensures.ending in rw is at done),
    )
