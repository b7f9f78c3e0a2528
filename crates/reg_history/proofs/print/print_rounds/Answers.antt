use Rattle.std.proofs.Common.{◌+◌, ◌≤◌, length, arith}
use Rattle.reg_history.proofs.print.PrintedRounds.{prints_more, few_more}
use Rattle.reg_history.proofs.print.Pieces.{grows_more}
use Rattle.reg_history.proofs.print.print_rounds.Goals as goal

pub overflow_add-count : goal.overflow_add-count
overflow_add-count c =
    let rows = c.requires.0 in
    let inv = c.loop-number.invariant in
    let front = inv.2 rows c.requires.1 in
    let few : c.loop-number.count + c.in_ok-count.field-0 ≤ length c.print_round.new.out.items =
    few_more _ _ _ _ _ _ _ _ _ _ _ c.loop-number-test.true c.index-rounds-number.is c.in_ok-count.ensures.text c.in_ok-count.ensures.count front inv.0 in
    omega (arith, few, c.print_round.new.out.small)

pub loop-number-preserved : goal.loop-number-preserved
loop-number-preserved c =
    let inv = c.loop-number.invariant in
    let front = inv.2 c.requires.0 c.requires.1 in (
      few_more _ _ _ _ _ _ _ _ _ _ _ c.loop-number-test.true c.index-rounds-number.is c.in_ok-count.ensures.text c.in_ok-count.ensures.count front inv.0,
      grows_more _ _ _ inv.1 c.in_ok-count.ensures.grows,
      λ rows are. prints_more _ _ _ _ _ _ _ _ _ _ _ c.loop-number-test.true c.index-rounds-number.is c.in_ok-count.ensures.text c.in_ok-count.ensures.count (inv.2 rows are),
    )
