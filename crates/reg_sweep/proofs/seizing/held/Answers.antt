use Rattle.reg_sweep.proofs.Seizes.{held_word}
use Rattle.reg_sweep.proofs.seizing.held.Goals as goal

pub returns : goal.returns
returns c = held_word c.args.word
