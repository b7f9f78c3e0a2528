use Rattle.std.proofs.Common.{length}
use Rattle.reg_history.specs.inner.LiveSets.{live_bodies}
use Rattle.reg_history.proofs.ledger.LiveEntries.{packed_live, packed_dead}
use Rattle.reg_history.proofs.ledger.kind_list.pack_live.Goals as goal
use Rattle.reg_history.proofs.ledger.kind_list.pack_live.Goals.{then-mark, else-mark}

pub loop-place-preserved : goal.loop-place-preserved
loop-place-preserved c =
    let marks = c.args.marks.now in
    let bodies = c.args.bodies.now in
    let at = c.loop-place in
    elim c.if-mark.branch [
      | then-mark w ↦ packed_live marks (live_bodies marks bodies) at.bodies c.if-mark.bodies (length bodies) at.place at.kept c.if-mark.kept _ c.loop-place-test.true c.requires at.invariant w.if-mark.true w.kept-is w.bodies-is
      | else-mark w ↦ packed_dead marks (live_bodies marks bodies) at.bodies c.if-mark.bodies (length bodies) at.place at.kept c.if-mark.kept _ c.loop-place-test.true c.requires at.invariant w.if-mark.false w.kept-is w.bodies-is
    ]
