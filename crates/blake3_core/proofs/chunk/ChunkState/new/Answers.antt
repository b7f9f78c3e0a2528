use Rattle.std.proofs.Common.{refl}
use Rattle.blake3_core.specs.Tree.{value_after}
use Rattle.blake3_core.proofs.chunk.ChunkState.new.Goals as goal

pub returns : goal.returns
unfolding value_after
returns c = record { empty = record { same_flags = refl; same_counter = refl; count = refl; compressed = refl; kept = refl } }
