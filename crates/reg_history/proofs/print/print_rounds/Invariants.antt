use Rattle.std.proofs.Common.{◌≤◌, List, length}
use Rattle.reg_model.specs.Runs.{RoundRows}
use Rattle.reg_requests.specs.inner.Printing.{Grows}
use Rattle.reg_history.specs.Rounds.{AreRoundsOf}
use Rattle.reg_history.proofs.print.PrintedRounds.{PrintsFront}
use Rattle.reg_history.proofs.print.print_rounds.Given as goal

-- the rounds that the loop has passed, and what the rest of them makes of them
abbrev pub invariant-loop-number : goal.invariant-loop-number
invariant-loop-number l =
    (l.count ≤ length l.out.items)
    × Grows l.initial.out.items l.out.items
    × ((rows : List RoundRows) → AreRoundsOf l.carried l.rounds rows → PrintsFront l.carried l.left l.rounds rows l.number l.initial.out.items l.out.items l.count)
