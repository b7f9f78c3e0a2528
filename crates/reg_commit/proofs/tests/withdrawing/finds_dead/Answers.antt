use Rattle.reg_commit.proofs.TrialsWithdrawn.{finds_dead}
use Rattle.reg_commit.proofs.tests.withdrawing.finds_dead.Goals as goal

pub returns-clause-refused : goal.returns-clause-refused
returns-clause-refused c =
    let late = c.requires.late in let front = c.in_ok-finds.ensures in let helped = c.help.ensures.helped in
    finds_dead _ helped.0 late.0 _ _ _ _ late.1.0 front.0 (λ j. (late.1.1 j).1) (λ j. (front.1 j).1) (λ j. (helped.2 j).1) c.load_stamp.ensures.told c.if-load_stamp-ne4294967297.false
