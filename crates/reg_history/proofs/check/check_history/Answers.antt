use Rattle.std.proofs.Common.{◌<◌, ◌^◌, length, arith}
use Rattle.reg_history.proofs.check.CheckOutcomes.{tells_history, tells_refusal, accepts_history, refuses_fault}
use Rattle.reg_history.proofs.check.check_history.Goals as goal

pub returns-clause-history : goal.returns-clause-history
returns-clause-history c = tells_history c.args.text.now c.checked.result c.checked.ensures.tells

pub returns-clause-fault : goal.returns-clause-fault
returns-clause-fault c = λ line cause is. tells_refusal c.args.text.now c.checked.result line cause c.checked.ensures.tells is

pub returns-clause-accepts : goal.returns-clause-accepts
returns-clause-accepts c =
    let short : length c.args.text.now < 2 ^ 64 = omega (arith, c.checked.ensures.short) in
    λ rows live is. accepts_history c.args.text.now c.checked.result rows live short c.checked.ensures.tells is

pub returns-clause-refuses : goal.returns-clause-refuses
returns-clause-refuses c =
    let short : length c.args.text.now < 2 ^ 64 = omega (arith, c.checked.ensures.short) in
    λ line cause has. refuses_fault c.args.text.now c.checked.result line cause short c.checked.ensures.tells has
