use Rattle.reg_words.proofs.Memory.{are_apart}
use Rattle.reg_words.proofs.laws.each_cell_is_a_word_of_its_own.Goals as goal

pub returns : goal.returns
returns c = are_apart
