use Rattle.std.proofs.Common.{sym}
use Rattle.reg_top.proofs.ServedRounds.{left_last}
use Rattle.reg_top.proofs.run_rounds.left_of.Goals as goal

pub returns-in-Some : goal.returns-in-Some
returns-in-Some c = sym (left_last c.args.opening.now c.args.rounds.now c.in-Some.last.now (sym c.in-Some.ensures.value))
