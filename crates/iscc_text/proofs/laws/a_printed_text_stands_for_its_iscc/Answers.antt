use Rattle.iscc_text.proofs.PrintedStands.{printed_stands}
use Rattle.iscc_text.proofs.laws.a_printed_text_stands_for_its_iscc.Goals as goal

pub returns : goal.returns
returns c = printed_stands
