use Rattle.std.proofs.Common.{Ok, Err, subst}
use Rattle.iscc_code.specs.inner.Decoding.{DecodesTo}
use Rattle.iscc_code.proofs.OneCode.{one_answer}
use Rattle.iscc_code.proofs.iscc.decode.Goals as goal

pub returns-clause-complete : goal.returns-clause-complete
returns-clause-complete c = λ iscc encoded. one_answer c.args.bytes.now c.read_bytes.result (Ok iscc) c.read_bytes.ensures encoded

pub returns-clause-fault : goal.returns-clause-fault
returns-clause-fault c = λ fault. (
  λ e. subst (DecodesTo c.args.bytes.now) e c.read_bytes.ensures,
  λ has. one_answer c.args.bytes.now c.read_bytes.result (Err fault) c.read_bytes.ensures has,
)
