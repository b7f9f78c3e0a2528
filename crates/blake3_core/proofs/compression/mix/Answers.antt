use Rattle.blake3_core.specs.Compression.{mixed}
use Rattle.std.proofs.Common.{refl}
use Rattle.blake3_core.proofs.compression.mix.Goals as goal

pub returns : goal.returns
unfolding mixed
returns c = rw c.quarter_round.ensures refl
