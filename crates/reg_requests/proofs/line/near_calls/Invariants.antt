use Rattle.std.proofs.Common.{◌≡◌, map, take}
use Rattle.reg_model.specs.declared.call.Call.TheVariants as calls
use Rattle.reg_requests.proofs.line.near_calls.Given as goal

-- the calls of the units that the loop has passed
abbrev pub invariant-loop-unit : goal.invariant-loop-unit
invariant-loop-unit l = l.calls.items ≡ map (λ unit. calls.Near unit l.radius) (take l.unit-index l.units)
