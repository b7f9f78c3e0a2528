use Rattle.std.proofs.Common.{inr, refl, rules}
use Rattle.reg_top.proofs.Makings.{unfaulty}
use Rattle.reg_top.proofs.commands.check.summary_of.Goals as goal

pub returns-in-Ok-clause-unfaulty : goal.returns-in-Ok-clause-unfaulty
returns-in-Ok-clause-unfaulty c =
    unfaulty c.args.file.now c.in-Some.text.now c.check_history.result c.in-Ok.summary c.in-Some.ensures.saved c.check_history.ensures.refuses c.in-Ok.is

pub returns-in-Err-Fault-clause-declines : goal.returns-in-Err-Fault-clause-declines
returns-in-Err-Fault-clause-declines c =
    inr (c.in-Err-Fault.fault, record { text = c.in-Some.text.now; saved = c.in-Some.ensures.saved; faulty = search rules }, refl)
