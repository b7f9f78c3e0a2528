-- Units of every width: a kind and a body (ISO 24138:2024).
use Rattle.std.specs.Prelude.{◌≡◌, ◌<◌, ◌≤◌, ◌-◌, ◌/◌, ◌%◌, ℕ, List, length, take, All, Bool, ◌==◌, ◌&&◌}
use Rattle.std.specs.List.{list_any}
use Rattle.std.specs.Int.{w64, from_be_bytes, to_be_bytes}
use Rattle.iscc_header.specs.Bits.{IsByte}
use Rattle.iscc_header.specs.Headers.{Numbers}
use Rattle.iscc_header.specs.Kinds.{kinds, main_of, sub_of}
use Rattle.iscc_header.specs.declared.unit.Unit64.{Unit64}

-- what a contract sees of a unit: the number of its kind, and the bytes of its body
pub record UnitParts : Type 0 where
  pub kind : ℕ
  pub body : List ℕ

-- a body has 4, 8, .. or 32 bytes
pub record IsBodyLength (bytes : ℕ) : Type 0 where
  pub least : 4 ≤ bytes
  pub most : bytes ≤ 32
  pub fours : bytes % 4 ≡ 0

-- the values that a unit has: here its numbers have no range of their own
pub record IsUnit (unit : UnitParts) : Type 0 where
  pub kind : unit.kind < 13
  pub len : IsBodyLength (length unit.body)
  pub bytes : All IsByte unit.body

-- a unit's header: the numbers of its kind, version 0, and how many 32 bits its body has more than the first 32
abbrev pub unit_header : UnitParts → Numbers
unit_header unit = record { main = main_of unit.kind; sub = sub_of unit.kind; version = 0; len = length unit.body / 4 - 1 }

-- some kind has this MainType and this SubType
unfoldable pub is_kind : ℕ → ℕ → Bool
is_kind main sub = list_any (λ pair. (pair.0 == main) && (pair.1 == sub)) kinds

-- the number of 64 bits that the first eight bytes of a body are, its first bit the highest
unfoldable pub first_bits : List ℕ → ℕ
first_bits body = from_be_bytes w64 (take 8 body)

-- the unit of the first 64 bits
abbrev pub first64_of : UnitParts → Unit64
first64_of unit = record { kind = unit.kind; body = first_bits unit.body }

-- a unit of 64 bits as what a contract sees of units of every width: the first bit of its body is the highest of the first byte
abbrev pub unit_parts : Unit64 → UnitParts
unit_parts unit = record { kind = unit.kind; body = to_be_bytes w64 unit.body }
