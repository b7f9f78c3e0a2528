use Rattle.blake3_core.specs.Compression.{quarter_round}
use Rattle.std.proofs.Common.{refl}
use Rattle.blake3_core.proofs.compression.quarter_round.Goals as goal

pub returns : goal.returns
unfolding quarter_round
returns c = rw (c.rotate_right-b-2.ensures, c.rotate_right-d-2.ensures, c.rotate_right-b.ensures, c.rotate_right-d.ensures) refl
