use Rattle.std.proofs.Common.{ap, ◌∙◌, arith}
use Rattle.reg_turn.specs.inner.Steps.{Sat, pass_of, turn_view}
use Rattle.reg_turn.proofs.SeatSteps.{deals}
use Rattle.reg_turn.proofs.Dealing.{dealt, dealt_idle, undealt, one_more_pass, one_more_of}
use Rattle.reg_turn.proofs.desk.deal.Goals as goal

pub split_seat-others-requires : goal.split_seat-others-requires
split_seat-others-requires c =
    let i = c.loop-number.invariant in
    (i.table, omega (arith, c.requires.table.0), deals c.args.table.now.shared.key _ _ (ap (λ (z : Sat). z.0.holds) i.me))

pub invariant_of-push : goal.invariant_of-push
invariant_of-push c =
    dealt_idle c.args.table.now.shared.key c.loop-number.number _
    (dealt c.args.table.now.shared.key c.loop-number.number _ _ _ c.loop-number.invariant.me (omega (arith, c.loop-number-test.true)) c.split_seat-others.ensures.2)

pub loop-number-preserved : goal.loop-number-preserved
loop-number-preserved c =
    let i = c.loop-number.invariant in
    let key = c.args.table.now.shared.key in
    let split = c.split_seat-others.ensures in
    let left = dealt key c.loop-number.number _ _ _ i.me (omega (arith, c.loop-number-test.true)) split.2 in
    record {
      table = split.3 ∙ i.table;
      me = undealt key c.loop-number.number c.args.callers _ _ i.me c.loop-number-test.true split.4;
      passes = one_more_pass key.carried.base c.loop-number.number _ _ _ i.passes c.in_ok-push.ensures.items (ap (λ (z : Sat). pass_of z.0) left);
      desk = one_more_of (turn_view c.args.table.now.shared.table_id key) _ _ _ i.desk c.in_ok-push.ensures.items (λ k. turn_view ((split.0 ∙ i.table) k) (left k).0.key);
    }
