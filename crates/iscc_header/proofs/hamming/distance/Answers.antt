use Rattle.iscc_header.proofs.DifferingBits.{ones_xor}
use Rattle.std.specs.Int.Count.{ones-le}
use Rattle.std.specs.Int.Bits.{xor_lt}
use Rattle.iscc_header.proofs.hamming.distance.Goals as goal

pub returns-clause-value : goal.returns-clause-value
returns-clause-value c = ones_xor c.args.a c.args.b c.ranges.a.fits c.ranges.b.fits

pub returns-clause-most : goal.returns-clause-most
returns-clause-most c = ones-le 64 _ (xor_lt 64 c.args.a c.args.b c.ranges.a.fits c.ranges.b.fits)
