use Rattle.reg_words.proofs.StampWords.{one_stamp, unborn_word}
use Rattle.reg_words.proofs.laws.a_stamp_word_is_of_one_stamp.Goals as goal

pub returns-clause-told : goal.returns-clause-told
returns-clause-told c = one_stamp

pub returns-clause-zero : goal.returns-clause-zero
returns-clause-zero c = unborn_word
