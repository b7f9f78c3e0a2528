use Rattle.reg_words.proofs.LogWords.{one_record, no_record}
use Rattle.reg_words.proofs.laws.a_log_word_is_of_one_record.Goals as goal

pub returns-clause-told : goal.returns-clause-told
returns-clause-told c = one_record

pub returns-clause-not_zero : goal.returns-clause-not_zero
returns-clause-not_zero c = no_record
