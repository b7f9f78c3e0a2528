use Rattle.std.proofs.Common.{◌≡◌, take, map}
use Rattle.serde_json.specs.View.{view}
use Rattle.iscc_text.specs.Explanations.{unit64_data}
use Rattle.iscc_text.proofs.explanation.unit_values.Given as goal

-- the objects of the units so far
abbrev pub invariant-loop-unit : goal.invariant-loop-unit
invariant-loop-unit l = map view l.values.items ≡ map unit64_data (take l.unit-index l.units)
