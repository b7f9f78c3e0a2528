-- The one printed text of a unit of 64 bits (ISO 24138:2024, canonical form).
use Rattle.std.specs.Prelude.{List, ℕ, ◌++◌, codes}
use Rattle.iscc_header.specs.Bits.{bits_of}
use Rattle.iscc_header.specs.Kinds.{main_of, sub_of}
use Rattle.iscc_header.specs.Headers.{header_bits}
use Rattle.iscc_header.specs.declared.unit.Unit64.{Unit64}
use Rattle.iscc_text.specs.Base32.{letters}

-- a header with version 0 and length 1, which stands for 64 bits, and the body
abbrev pub unit_bits : Unit64 → List ℕ
unit_bits unit = header_bits (main_of unit.kind) (sub_of unit.kind) 0 1 ++ bits_of 64 unit.body

-- the scheme and the letters of the bits, without padding characters
unfoldable pub unit_text : Unit64 → List ℕ
unit_text unit = codes "ISCC:" ++ letters (unit_bits unit)
