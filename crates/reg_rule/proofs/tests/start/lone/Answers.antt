use Rattle.std.proofs.Common.{◌<◌, length, arith}
use Rattle.std.proofs.lemmas.Bool.Decides.{nat_tests}
use Rattle.reg_rule.proofs.Tried.{dealt_first}
use Rattle.reg_rule.proofs.tests.start.lone.Goals as goal

pub returns : goal.returns
returns c = let some : 0 < length c.in_ok-words.passes.items = grind (arith, nat_tests) in dealt_first c.in_ok-words.words c.in_ok-words.passes.items c.remove.result c.in_ok-words.ensures.fresh some c.remove.ensures.value
