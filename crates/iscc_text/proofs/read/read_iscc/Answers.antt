use Rattle.std.proofs.Common.{Ok, Err, subst}
use Rattle.iscc_text.specs.inner.Reading.{ReadsText}
use Rattle.iscc_text.proofs.OneText.{one_reading}
use Rattle.iscc_text.proofs.read.read_iscc.Goals as goal

pub returns-clause-complete : goal.returns-clause-complete
returns-clause-complete c = λ iscc stands. one_reading c.args.text.now c.read_text.result (Ok iscc) c.read_text.ensures stands

pub returns-clause-fault : goal.returns-clause-fault
returns-clause-fault c = λ fault. (
  λ e. subst (ReadsText c.args.text.now) e c.read_text.ensures,
  λ has. one_reading c.args.text.now c.read_text.result (Err fault) c.read_text.ensures has,
)
