use Rattle.std.proofs.Common.{rules, ◌≡◌, length}
use Rattle.reg_rule.proofs.Tried.{dealt_two}
use Rattle.reg_rule.proofs.tests.pair.Goals as goal

pub returns-clause-first : goal.returns-clause-first
returns-clause-first c = let started = c.in_ok-words.ensures in let two : length c.in_ok-words.passes.items ≡ 2 = search rules in (dealt_two c.in_ok-words.words _ _ _ c.in-Some-pop.first c.in-Some.second started.fresh two c.in-Some.ensures.items c.in-Some-pop.ensures.items).0

pub returns-clause-second : goal.returns-clause-second
returns-clause-second c = let started = c.in_ok-words.ensures in let two : length c.in_ok-words.passes.items ≡ 2 = search rules in (dealt_two c.in_ok-words.words _ _ _ c.in-Some-pop.first c.in-Some.second started.fresh two c.in-Some.ensures.items c.in-Some-pop.ensures.items).1
