use Rattle.std.proofs.Common.{◌≡◌, ◌*◌, length, take}
use Rattle.std.specs.List.{flat_map}
use Rattle.std.specs.Int.{to_le_bytes, w32}
use Rattle.blake3_core.proofs.node.Output.root_hash.Given as goal

abbrev pub invariant-words : goal.invariant-words
invariant-words l = (length l.out ≡ 32) × (take (4 * l.i) l.out ≡ flat_map (to_le_bytes w32) (take l.i l.words))
