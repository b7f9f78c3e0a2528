use Rattle.std.proofs.Common.{refl}
use Rattle.blake3_core.specs.Compression.{rounds}
use Rattle.blake3_core.proofs.compression.seven_rounds.Goals as goal

pub returns : goal.returns
unfolding rounds
returns c = rw (c.round-7.ensures, c.permuted-m-6.ensures, c.round-6.ensures, c.permuted-m-5.ensures, c.round-5.ensures, c.permuted-m-4.ensures, c.round-4.ensures, c.permuted-m-3.ensures, c.round-3.ensures, c.permuted-m-2.ensures, c.round-2.ensures, c.permuted-m.ensures, c.round.ensures) refl
