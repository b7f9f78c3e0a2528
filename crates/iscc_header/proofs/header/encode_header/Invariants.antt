use Rattle.std.proofs.Common.{◌≡◌, ◌<◌, ◌≤◌, ◌*◌, ◌^◌, take}
use Rattle.std.specs.List.{flat_map}
use Rattle.iscc_header.specs.Bits.{bits_of}
use Rattle.iscc_header.specs.Headers.{number_bits}
use Rattle.iscc_header.proofs.header.encode_header.Given as goal

-- the bits are the encodings of the numbers so far
abbrev pub invariant-loop-number : goal.invariant-loop-number
invariant-loop-number l = record {
  encoded : bits_of (4 * l.bits.count) l.bits.value ≡ flat_map number_bits (take l.number-index l.number-items);
  fits : l.bits.value < 2 ^ (4 * l.bits.count);
  count : l.bits.count ≤ 4 * l.number-index;
}
