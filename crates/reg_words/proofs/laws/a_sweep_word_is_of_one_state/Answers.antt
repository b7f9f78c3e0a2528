use Rattle.reg_words.proofs.SweepWords.{one_state}
use Rattle.reg_words.proofs.laws.a_sweep_word_is_of_one_state.Goals as goal

pub returns : goal.returns
returns c = one_state
