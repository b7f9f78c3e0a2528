-- Units of 64 bits.
use Rattle.std.specs.Prelude.{◌^◌, ◌<◌}
use Rattle.iscc_header.specs.declared.unit.Unit64.{Unit64}

-- the values that a `Unit64` has: here its numbers have no range of their own
pub record IsUnit64 (unit : Unit64) : Type 0 where
  pub kind : unit.kind < 13
  pub body : unit.body < 2 ^ 64
