use Rattle.iscc_text.proofs.PrintedStands.{one_printed}
use Rattle.iscc_text.proofs.laws.each_iscc_has_one_printed_text.Goals as goal

pub returns : goal.returns
returns c = one_printed
