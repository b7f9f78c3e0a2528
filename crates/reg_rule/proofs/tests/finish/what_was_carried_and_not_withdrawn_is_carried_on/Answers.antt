use Rattle.reg_rule.proofs.Tried.{new_rest}
use Rattle.reg_rule.proofs.tests.finish.what_was_carried_and_not_withdrawn_is_carried_on.Goals as goal

pub finish-requires-clause-rest : goal.finish-requires-clause-rest
finish-requires-clause-rest g c = new_rest _ _ c.in_ok-words.ensures.fresh
