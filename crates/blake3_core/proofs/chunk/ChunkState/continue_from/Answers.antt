use Rattle.std.proofs.Common.{◌∙◌, refl}
use Rattle.std.proofs.lemmas.List.{take_rest}
use Rattle.blake3_core.proofs.Chunks.{HasChunk-from}
use Rattle.blake3_core.proofs.chunk.ChunkState.continue_from.Goals as goal

pub returns-clause-bytes : goal.returns-clause-bytes
returns-clause-bytes c = λ key flags counter bytes same number start tail within.
    HasChunk-from key flags counter bytes _ _ _ c.args.rest.now c.args.first _ _ _ same number
    (rw (same, number) at (c.value_after-self.ensures key bytes (rw (same, number) start) tail))
    tail within c.requires.more refl (c.copy_from_slice.ensures.after ∙ take_rest c.args.rest.now _)
