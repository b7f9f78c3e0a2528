use Rattle.std.proofs.Common.{sym, ◌∙◌, ap}
use Rattle.std.specs.Prelude.{nat_lt}
use Rattle.iscc_code.proofs.GivenUnits.{length-of_main}
use Rattle.iscc_code.proofs.composing.stands_twice.Goals as goal

pub returns : goal.returns
returns c = ap (nat_lt 1) (c.count_of.ensures ∙ sym (length-of_main _ c.args.units.now))
