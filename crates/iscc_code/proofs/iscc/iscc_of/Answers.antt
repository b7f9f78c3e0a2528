use Rattle.std.proofs.Common.{arith}
use Rattle.iscc_code.proofs.CodeFaults.{main_fault, version_fault, length_fault}
use Rattle.iscc_code.proofs.iscc.iscc_of.Goals as goal

pub returns-then-main-gt-ISCC : goal.returns-then-main-gt-ISCC
returns-then-main-gt-ISCC c = record { behind = tt; first = main_fault c.args.header.now c.args.body.now (omega arith) }

pub returns-then-version-ne0 : goal.returns-then-version-ne0
returns-then-version-ne0 c = record {
  behind = tt;
  first = version_fault c.args.header.now c.args.body.now (omega arith) (λ e. omega (arith, c.if-version-ne0.true, c.version.ensures));
}

pub returns-then-length-gt7 : goal.returns-then-length-gt7
returns-then-length-gt7 c = record { behind = tt; first = length_fault c.args.header.now c.args.body.now (omega arith) (omega arith) (omega arith) }
