use Rattle.std.proofs.Common.{append-nil, refl}
use Rattle.reg_top.proofs.ServedRounds.{calls_more}
use Rattle.reg_top.proofs.run_rounds.calls_of.Goals.{in-Call+in_ok-push, in_default}
use Rattle.reg_top.proofs.run_rounds.calls_of.Goals as goal

pub loop-item-preserved : goal.loop-item-preserved
loop-item-preserved c =
    let longer = calls_more c.args.items.now c.loop-item.item-index c.item-item.result c.loop-item-test.true c.item-item.is in
    elim c.match-item.branch [
      | in-Call+in_ok-push w ↦ rw (w.calls-is, w.in_ok-push.ensures.items, c.loop-item.invariant, longer, w.in-Call.is) refl
      | in_default w ↦ rw (w.calls-is, c.loop-item.invariant, longer, w.in_default.is, append-nil) refl
    ]
