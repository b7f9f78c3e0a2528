-- The bytes so far as complete subtrees and a last chunk.
use Rattle.std.specs.Prelude.{ℕ, ◌+◌, ◌*◌, ◌<◌, ◌≤◌, List, drop}
use Rattle.blake3_core.specs.Chunk.{HasChunk, chunk_len}
use Rattle.blake3_core.specs.Compression.{iv}
use Rattle.iscc_instance.specs.declared.state.State.{State}
use Rattle.iscc_instance.specs.inner.Subtrees.{Stands}

-- how many bytes it has
abbrev pub state_len : State → ℕ
state_len s = 1024 * s.subtrees.count + chunk_len s.chunk

-- the state has these bytes: every chunk but the last stands in a complete subtree, and the last one,
-- which may be the root and may still grow, is there even where it is full
pub record HasBytes (s : State) (bytes : List ℕ) : Type 0 where
  pub stands : Stands s.subtrees bytes
  pub chunk : HasChunk iv 0 s.subtrees.count s.chunk (drop (1024 * s.subtrees.count) bytes)
  pub in_chunk : chunk_len s.chunk ≤ 1024
  pub more : 0 < s.subtrees.count → 0 < chunk_len s.chunk
