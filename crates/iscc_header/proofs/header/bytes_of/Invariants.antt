use Rattle.std.proofs.Common.{◌≡◌, ◌-◌, ◌*◌, ◌++◌}
use Rattle.arrayvec.specs.ArrayVec.{array_vec_len}
use Rattle.iscc_header.specs.Bits.{bits_of, byte_bits, IsByte}
use Rattle.std.specs.Prelude.{All}
use Rattle.iscc_header.proofs.header.bytes_of.Given as goal

-- the bytes that are written, and the bits that are left
abbrev pub invariant-loop-i : goal.invariant-loop-i
invariant-loop-i l =
    (byte_bits l.bytes.items ++ bits_of (8 * (l.count - l.i)) l.bits.value ≡ bits_of (4 * l.bits.count) l.bits.value)
    × (array_vec_len l.bytes ≡ l.i)
    × All IsByte l.bytes.items
