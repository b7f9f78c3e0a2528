use Rattle.std.proofs.Common.{arith}
use Rattle.iscc_header.proofs.NibblePlaces.{high_nibble, low_nibble}
use Rattle.iscc_header.proofs.number.nibble_at.Goals as goal

pub returns-then-at-eq0-clause-value : goal.returns-then-at-eq0-clause-value
returns-then-at-eq0-clause-value c = high_nibble c.args.bytes.now c.args.at c.requires c.if-at-eq0.true

pub returns-else-at-eq0-clause-value : goal.returns-else-at-eq0-clause-value
returns-else-at-eq0-clause-value c = low_nibble c.args.bytes.now c.args.at c.requires (omega arith)
