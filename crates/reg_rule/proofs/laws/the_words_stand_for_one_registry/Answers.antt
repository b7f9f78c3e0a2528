use Rattle.reg_rule.proofs.Readers.{words_stand}
use Rattle.reg_rule.proofs.laws.the_words_stand_for_one_registry.Goals as goal

pub returns : goal.returns
returns c = words_stand
