use Rattle.std.proofs.Common.{rules}
use Rattle.blake3_core.specs.Compression.{word_at}
use Rattle.blake3_core.proofs.chunk.word_at.Goals as goal

pub returns : goal.returns
unfolding word_at
returns c = search rules
