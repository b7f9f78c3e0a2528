use Rattle.std.proofs.Common.{arith}
use Rattle.reg_free.proofs.Publishing.{nothing_below}
use Rattle.reg_free.proofs.declaring.help_below.Goals as goal

pub returns-else-place-gt0-clause-helped : goal.returns-else-place-gt0-clause-helped
returns-else-place-gt0-clause-helped c = nothing_below c.args.pass.now.1 c.args.place (omega arith)
