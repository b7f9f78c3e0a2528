use Rattle.iscc_code.proofs.OneComposite.{one_composite}
use Rattle.iscc_code.proofs.laws.units_have_one_composite.Goals as goal

pub returns : goal.returns
returns c = one_composite
