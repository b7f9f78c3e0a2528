use Rattle.iscc_text.proofs.PrintedStands.{unit_text_printed}
use Rattle.iscc_text.proofs.laws.a_unit_text_is_printed.Goals as goal

pub returns : goal.returns
returns c = unit_text_printed
