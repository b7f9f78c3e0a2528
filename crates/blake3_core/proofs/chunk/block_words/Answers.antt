use Rattle.std.proofs.Common.{◌∙◌}
use Rattle.blake3_core.proofs.Chunks.{block_words-filled}
use Rattle.blake3_core.proofs.chunk.block_words.Goals as goal

pub returns : goal.returns
returns c = c.full_block_words-2.ensures ∙ block_words-filled c.args.block.now c.copy_from_slice.new.self c.requires c.copy_from_slice.ensures.after
