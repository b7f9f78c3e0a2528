-- What a reader of numbers and headers may answer, case by case.
use Rattle.std.specs.Prelude.{ℕ, ◌*◌, ◌≤◌, List, length, take, Result, Ok, Err}
use Rattle.iscc_header.specs.declared.number.NibbleFault.{NibbleFault}
use Rattle.iscc_header.specs.declared.number.NibbleFault.TheVariants.{Short, NoCode}
use Rattle.iscc_header.specs.declared.header.HeaderFault.{HeaderFault}
use Rattle.iscc_header.specs.declared.header.HeaderFault.TheVariants as faults
use Rattle.iscc_header.specs.Bits.{byte_bits}
use Rattle.iscc_header.specs.Headers.{bits_from, BeginsWithNumber, EndsWithinNumber, BeginsWithNoNumber, Numbers, EncodesHeader, EndsWithinHeader, LacksNumber, IsPaddedWrongly}

-- the number at a nibble place and the place after it, or the fault
abbrev pub ReadsNumber : List ℕ → ℕ → Result (ℕ × ℕ) NibbleFault → Type 0
ReadsNumber bytes at (Ok read) = (read.1 ≤ 2 * length bytes) × BeginsWithNumber (bits_from bytes at) read.0 (bits_from bytes read.1)
ReadsNumber bytes at (Err Short) = EndsWithinNumber (bits_from bytes at)
ReadsNumber bytes at (Err NoCode) = BeginsWithNoNumber (bits_from bytes at)

-- the header at the front of bytes and how many bytes it has, or the first fault
abbrev pub ReadsHeader : List ℕ → Result (Numbers × ℕ) HeaderFault → Type 0
ReadsHeader bytes (Ok read) = (read.1 ≤ length bytes) × EncodesHeader read.0 (take read.1 bytes)
ReadsHeader bytes (Err faults.Short) = EndsWithinHeader (byte_bits bytes)
ReadsHeader bytes (Err faults.NoCode) = LacksNumber (byte_bits bytes)
ReadsHeader bytes (Err faults.Padding) = IsPaddedWrongly (byte_bits bytes)
