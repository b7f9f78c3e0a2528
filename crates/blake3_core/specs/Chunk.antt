-- A chunk taken in piece by piece.
use Rattle.std.specs.Prelude.{◌≡◌, ℕ, ◌-◌, ◌*◌, List, length, take, drop}
use Rattle.blake3_core.specs.declared.chunk.ChunkState.{ChunkState}
use Rattle.blake3_core.specs.Tree.{last_block, value_after}

-- how many bytes of its chunk the state has
abbrev pub chunk_len : ChunkState → ℕ
chunk_len s = s.len

-- the state has the first bytes of the chunk with the number counter: it has compressed every block
-- before the last one, which may still be the chunk's last, and keeps that one
pub record HasChunk (key : List ℕ) (flags counter : ℕ) (s : ChunkState) (bytes : List ℕ) : Type 0 where
  pub same_flags : s.flags ≡ flags
  pub same_counter : s.counter ≡ counter
  pub count : s.len ≡ length bytes
  pub compressed : s.input ≡ value_after key flags bytes counter (last_block bytes)
  pub kept : take (length bytes - 64 * last_block bytes) s.block ≡ drop (64 * last_block bytes) bytes
