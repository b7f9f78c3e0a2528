use Rattle.iscc_text.proofs.OneUnit.{same_unit}
use Rattle.iscc_text.proofs.laws.a_printed_text_is_of_one_unit.Goals as goal

pub returns : goal.returns
returns c = same_unit
