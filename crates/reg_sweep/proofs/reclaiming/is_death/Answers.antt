use Rattle.std.proofs.Common.{arith}
use Rattle.reg_sweep.proofs.Deaths.{death_shows}
use Rattle.reg_sweep.proofs.reclaiming.is_death.Goals as goal

pub returns : goal.returns
returns c = λ stamp fits is. death_shows _ c.args.word stamp fits is (λ e. grind arith) (λ e. grind arith)
