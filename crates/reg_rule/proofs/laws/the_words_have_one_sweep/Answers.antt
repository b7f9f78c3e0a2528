use Rattle.reg_rule.proofs.Readers.{one_sweep}
use Rattle.reg_rule.proofs.laws.the_words_have_one_sweep.Goals as goal

pub returns : goal.returns
returns c = one_sweep
