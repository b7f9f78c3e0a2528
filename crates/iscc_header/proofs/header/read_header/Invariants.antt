use Rattle.std.proofs.Common.{◌≡◌, ◌≤◌, ◌*◌, length, take}
use Rattle.iscc_header.specs.Bits.{byte_bits}
use Rattle.iscc_header.specs.Headers.{bits_from, BeginsWithNumbers}
use Rattle.iscc_header.proofs.header.read_header.Given as goal

-- the numbers so far stand at the front
abbrev pub invariant-loop-i : goal.invariant-loop-i
invariant-loop-i l = record {
  within : l.at ≤ 2 * length l.bytes;
  four : length l.numbers ≡ 4;
  read : BeginsWithNumbers (byte_bits l.bytes) (take l.i l.numbers) (bits_from l.bytes l.at);
}
