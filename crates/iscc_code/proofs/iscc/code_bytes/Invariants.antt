use Rattle.std.proofs.Common.{◌≡◌, ◌++◌, take}
use Rattle.std.specs.List.{flat_map}
use Rattle.iscc_code.specs.Composites.{body_bytes}
use Rattle.iscc_code.proofs.iscc.code_bytes.Given as goal

-- the header, and the bodies so far
abbrev pub invariant-loop-unit : goal.invariant-loop-unit
invariant-loop-unit l = l.bytes.items ≡ l.initial.bytes.items ++ flat_map body_bytes (take l.unit-index l.unit-items)
