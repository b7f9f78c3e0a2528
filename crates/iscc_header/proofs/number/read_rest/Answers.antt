use Rattle.std.proofs.Common.{◌≡◌, ◌+◌, ap, arith, lit<}
use Rattle.iscc_header.specs.Headers.{bits_from}
use Rattle.iscc_header.specs.Bits.{bits_of}
use Rattle.iscc_header.proofs.NumberReading.{one_nibble_more}
use Rattle.iscc_header.proofs.number.read_rest.Goals as goal

pub loop-i-init : goal.loop-i-init
unfolding bits_of
loop-i-init c =
    let bytes = c.args.bytes.now in
    let here : c.args.at ≡ c.args.at + 0 = omega arith in
    (lit< tt, ap (bits_from bytes) here)

pub loop-i-preserved : goal.loop-i-preserved
loop-i-preserved c =
    one_nibble_more c.args.bytes.now c.args.at c.loop-i.i c.loop-i.number c.nibble_at.result c.loop-i.invariant.0 c.nibble_at.ensures.small c.loop-i.invariant.1 c.nibble_at.ensures.value
