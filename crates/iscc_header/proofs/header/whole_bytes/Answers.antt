use Rattle.std.proofs.Common.{◌≡◌, ◌+◌, ◌*◌, ◌^◌, ◌%◌, ◌∙◌, sym, ap, arith}
use Rattle.std.proofs.lemmas.Nat.{shl_whole}
use Rattle.iscc_header.specs.Bits.{bits_of}
use Rattle.iscc_header.proofs.BitLists.{bits_of-append, length-bits_of}
use Rattle.iscc_header.proofs.HeaderReading.{padded_even, padded_odd}
use Rattle.iscc_header.proofs.header.whole_bytes.Goals as goal

pub returns-then-bits-eq0-clause-bits : goal.returns-then-bits-eq0-clause-bits
returns-then-bits-eq0-clause-bits c =
    let bits = bits_of (4 * c.args.bits.count) c.args.bits.value in
    sym (padded_even bits (omega (arith, length-bits_of (4 * c.args.bits.count) c.args.bits.value)))

pub returns-clause-bits : goal.returns-clause-bits
unfolding bits_of
returns-clause-bits c =
    let count = c.args.bits.count in
    let value = c.args.bits.value in
    let bits = bits_of (4 * count) value in
    let whole : value * 16 % 2 ^ 64 ≡ value * 16 = shl_whole value (4 * count) 4 64 c.requires.fits (omega arith) in
    ap (bits_of (4 * (count + 1))) (omega (arith, whole))
    ∙ bits_of-append (4 * count) 4 (4 * (count + 1)) value 0 (omega arith) (omega arith)
    ∙ sym (padded_odd bits (λ e. omega (arith, e, length-bits_of (4 * count) value)))
