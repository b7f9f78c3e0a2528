use Rattle.std.proofs.Common.{subst}
use Rattle.iscc_header.specs.inner.Reading.{ReadsNumber}
use Rattle.iscc_header.proofs.NumberReading.{reads_complete, reads_short, reads_none}
use Rattle.iscc_header.proofs.number.get_nibbles.Goals as goal

pub returns-clause-complete : goal.returns-clause-complete
returns-clause-complete c = λ n rest. reads_complete c.args.bytes.now c.args.at c.read_number.result n rest c.read_number.ensures

pub returns-clause-short : goal.returns-clause-short
returns-clause-short c =
    (λ e. subst (ReadsNumber c.args.bytes.now c.args.at) e c.read_number.ensures, reads_short c.args.bytes.now c.args.at c.read_number.result c.read_number.ensures)

pub returns-clause-no_code : goal.returns-clause-no_code
returns-clause-no_code c =
    (λ e. subst (ReadsNumber c.args.bytes.now c.args.at) e c.read_number.ensures, reads_none c.args.bytes.now c.args.at c.read_number.result c.read_number.ensures)
