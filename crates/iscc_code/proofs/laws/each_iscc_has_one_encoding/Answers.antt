use Rattle.iscc_code.proofs.OneCode.{same_iscc, same_encoding}
use Rattle.iscc_code.proofs.laws.each_iscc_has_one_encoding.Goals as goal

pub returns-clause-encoding : goal.returns-clause-encoding
returns-clause-encoding c = λ iscc a b. same_encoding iscc a b

pub returns-clause-iscc : goal.returns-clause-iscc
returns-clause-iscc c = λ a b bytes. same_iscc a b bytes
