use Rattle.std.proofs.Common.{refl}
use Rattle.reg_history.proofs.print.Pieces.{one_row_more}
use Rattle.reg_history.proofs.print.print_rows.Goals as goal

pub loop-place-preserved : goal.loop-place-preserved
loop-place-preserved c =
    one_row_more c.args.accounts.now c.args.order.now c.loop-place.place-index _ (record { session = 0; number = 0 }) _ _ _ _ c.loop-place-test.true refl c.row_of.ensures c.loop-place.invariant c.in_ok-print_row.ensures.ok
