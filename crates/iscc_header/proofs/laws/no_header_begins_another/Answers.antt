use Rattle.iscc_header.proofs.HeaderReading.{one_header}
use Rattle.iscc_header.proofs.laws.no_header_begins_another.Goals as goal

pub returns : goal.returns
returns c = λ g h a b x y. one_header g h a b x y
