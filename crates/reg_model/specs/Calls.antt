-- The calls that may be asked for.
use Rattle.std.specs.Prelude.{◌<◌, ◌≤◌, ◌^◌}
use Rattle.iscc_header.specs.Unit64s.{IsUnit64}
use Rattle.reg_model.specs.declared.TheConstants.{RADIUS_MOST}
use Rattle.reg_model.specs.declared.call.Call.{Call}
use Rattle.reg_model.specs.declared.call.Call.TheVariants as calls

-- declarations and queries of a unit, with a radius that may be asked for, and numbers of 64 bits
abbrev pub IsRequest : Call → Type 0
IsRequest (calls.Declare unit) = IsUnit64 unit
IsRequest (calls.Withdraw id) = id < 2 ^ 64
IsRequest (calls.Near unit radius) = IsUnit64 unit × (radius ≤ RADIUS_MOST)
IsRequest (calls.Show id) = id < 2 ^ 64
IsRequest calls.Count = Unit {0}
IsRequest (calls.After point) = point < 2 ^ 64
