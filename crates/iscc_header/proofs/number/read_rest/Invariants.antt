use Rattle.std.proofs.Common.{◌≡◌, ◌+◌, ◌*◌, ◌^◌, ◌<◌, ◌++◌}
use Rattle.iscc_header.specs.Bits.{bits_of}
use Rattle.iscc_header.specs.Headers.{bits_from}
use Rattle.iscc_header.proofs.number.read_rest.Given as goal

-- the nibbles so far are the number's
abbrev pub invariant-loop-i : goal.invariant-loop-i
invariant-loop-i l =
    (l.number < 2 ^ (4 * l.i))
    × (bits_from l.bytes l.at ≡ bits_of (4 * l.i) l.number ++ bits_from l.bytes (l.at + l.i))
