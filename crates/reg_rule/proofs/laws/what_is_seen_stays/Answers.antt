use Rattle.std.proofs.Common.{[], sym, append-nil}
use Rattle.reg_rule.proofs.ReadersOneLog.{join_keeps, exchange_sees, words_stay}
use Rattle.reg_rule.proofs.ReadersSteps.{steps_lengthen}
use Rattle.reg_rule.proofs.laws.what_is_seen_stays.Goals as goal

pub returns-clause-steps : goal.returns-clause-steps
returns-clause-steps c = steps_lengthen

pub returns-clause-split : goal.returns-clause-split
returns-clause-split c = λ v. ([], sym (append-nil v.log))

pub returns-clause-join : goal.returns-clause-join
returns-clause-join c = join_keeps

pub returns-clause-exchange : goal.returns-clause-exchange
returns-clause-exchange c = exchange_sees

pub returns-clause-words : goal.returns-clause-words
returns-clause-words c = words_stay
