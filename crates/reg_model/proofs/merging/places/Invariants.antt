use Rattle.std.proofs.Common.{◌≡◌, map, take}
use Rattle.reg_model.specs.inner.MergeKeys.{key_place}
use Rattle.reg_model.proofs.merging.places.Given as goal

-- the places of what the loop has passed
abbrev pub invariant-loop-key : goal.invariant-loop-key
invariant-loop-key l = l.places.items ≡ map key_place (take l.key-index l.keys)
