use Rattle.blake3_core.specs.Compression.{permuted}
use Rattle.std.proofs.Common.{refl}
use Rattle.blake3_core.proofs.compression.permuted.Goals as goal

pub returns : goal.returns
unfolding permuted
returns c = refl
