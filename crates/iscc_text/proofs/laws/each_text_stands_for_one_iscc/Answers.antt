use Rattle.iscc_text.proofs.OneText.{one_iscc}
use Rattle.iscc_text.proofs.laws.each_text_stands_for_one_iscc.Goals as goal

pub returns : goal.returns
returns c = one_iscc
