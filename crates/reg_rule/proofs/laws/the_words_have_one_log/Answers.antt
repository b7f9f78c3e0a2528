use Rattle.reg_rule.proofs.ReadersLog.{front_is}
use Rattle.reg_rule.proofs.ReadersOneLog.{one_log}
use Rattle.reg_rule.proofs.laws.the_words_have_one_log.Goals as goal

pub returns-clause-front : goal.returns-clause-front
returns-clause-front c = front_is

pub returns-clause-one : goal.returns-clause-one
returns-clause-one c = one_log
