-- The Instance-Code of bytes, as a unit of 64 bits (ISO 24138:2024).
use Rattle.std.specs.Prelude.{ℕ, List, take}
use Rattle.iscc_header.specs.declared.unit.Unit64.{Unit64}
use Rattle.blake3_core.specs.Tree.{hash}
use Rattle.iscc_code.specs.Units.{first64_of}

-- its kind is INSTANCE, and its body the first 64 bits of the hash
abbrev pub instance_of : List ℕ → Unit64
instance_of bytes = first64_of (record { kind = 12; body = take 8 (hash bytes) })
