use Rattle.std.proofs.Common.{subst}
use Rattle.iscc_header.specs.inner.Reading.{ReadsHeader}
use Rattle.iscc_header.proofs.HeaderReading.{header_complete, header_short, header_lacking, header_padding}
use Rattle.iscc_header.proofs.header.decode_header.Goals as goal

pub returns-clause-complete : goal.returns-clause-complete
returns-clause-complete c = λ header front rest. header_complete c.args.bytes.now c.read_header.result header front rest c.read_header.ensures

pub returns-clause-short : goal.returns-clause-short
returns-clause-short c =
    (λ e. subst (ReadsHeader c.args.bytes.now) e c.read_header.ensures, header_short c.args.bytes.now c.read_header.result c.read_header.ensures)

pub returns-clause-no_code : goal.returns-clause-no_code
returns-clause-no_code c =
    (λ e. subst (ReadsHeader c.args.bytes.now) e c.read_header.ensures, header_lacking c.args.bytes.now c.read_header.result c.read_header.ensures)

pub returns-clause-padding : goal.returns-clause-padding
returns-clause-padding c =
    (λ e. subst (ReadsHeader c.args.bytes.now) e c.read_header.ensures, header_padding c.args.bytes.now c.read_header.result c.read_header.ensures)
