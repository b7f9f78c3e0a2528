-- BLAKE3's tree of chunks and parents (the BLAKE3 paper, 2.1 and 2.3 to 2.6) on lists of bytes. The
-- key is eight words, the IV in plain mode, and the mode's flags are 0 there (2.3).
use Rattle.std.specs.Prelude.{◌≡◌, ◌<◌, ◌≤◌, ℕ, zero, suc, ◌+◌, ◌-◌, ◌*◌, ◌/◌, ◌^◌, nat_le, if◌then◌else◌, List, ◌++◌, length, take, drop, map, replicate, bit_or}
use Rattle.std.specs.List.{flat_map, range_with_len}
use Rattle.std.specs.Int.{w32, to_le_bytes}
use Rattle.blake3_core.specs.declared.node.Output.{Output}
use Rattle.blake3_core.specs.Compression.{compress, iv, word_at}

-- the flags of a compression (2.2)
abbrev pub chunk_start : ℕ
chunk_start = 1

abbrev pub chunk_end : ℕ
chunk_end = 2

abbrev pub parent_flag : ℕ
parent_flag = 4

abbrev pub root_flag : ℕ
root_flag = 8

-- the 16 words of a block, whose last bytes are zeros where it has fewer than 64 (2.4)
unfoldable pub block_words : List ℕ → List ℕ
block_words b = map (λ i. word_at (b ++ replicate (64 - length b) 0) (4 * i)) (range_with_len 0 16)

-- block k of a chunk: 64 bytes, fewer where the chunk ends in it
abbrev pub block_at : List ℕ → ℕ → List ℕ
block_at chunk k = take 64 (drop (64 * k) chunk)

-- the last block's place: every block but the last is full, and an empty chunk has one block
abbrev pub last_block : List ℕ → ℕ
last_block chunk = (length chunk - 1) / 64

-- the first block of a chunk is marked
abbrev pub start_flag : ℕ → ℕ
start_flag zero = chunk_start
start_flag (suc k) = 0

-- the chaining value after the first k blocks of a chunk, for k up to the last block's place (2.4)
unfoldable pub value_after : List ℕ → ℕ → List ℕ → ℕ → ℕ → List ℕ
value_after key flags chunk counter zero = key
value_after key flags chunk counter (suc k) =
    take 8 (compress (value_after key flags chunk counter k) (block_words (block_at chunk k)) counter 64
    (bit_or flags (start_flag k)))

-- a chunk's last compression, which is marked: the chunk's number is its counter (2.4)
unfoldable pub chunk_output : List ℕ → ℕ → List ℕ → ℕ → Output
chunk_output key flags chunk counter =
    let k = last_block chunk in
    record {
      input = value_after key flags chunk counter k;
      block = block_words (block_at chunk k);
      counter = counter;
      len = length (block_at chunk k);
      flags = bit_or (bit_or flags (start_flag k)) chunk_end;
    }

-- a parent's one compression, over the values of its children (2.5)
unfoldable pub parent_output : List ℕ → ℕ → List ℕ → List ℕ → Output
parent_output key flags left right =
    record { input = key; block = left ++ right; counter = 0; len = 64; flags = bit_or flags parent_flag }

-- the chaining value of a node that is not the root
unfoldable pub node_value : Output → List ℕ
node_value o = take 8 (compress o.input o.block o.counter o.len o.flags)

-- the first 32 bytes of the root's output, whose compression is marked and has the counter 0 (2.6)
unfoldable pub root_bytes : Output → List ℕ
root_bytes o = flat_map (to_le_bytes w32) (take 8 (compress o.input o.block 0 o.len (bit_or o.flags root_flag)))

-- a subtree of at most 2 ^ level chunks, whose first chunk has the number first (2.1): it is one
-- level lower where its bytes fit there, and else a parent of a full left subtree and of the rest.
-- So the left one has the largest power of two of chunks that leaves at least one byte on the right.
unfoldable pub subtree : List ℕ → ℕ → ℕ → List ℕ → ℕ → Output
subtree key flags zero bytes first = chunk_output key flags bytes first
subtree key flags (suc level) bytes first =
    if nat_le (length bytes) (1024 * 2 ^ level) then subtree key flags level bytes first
    else parent_output key flags
    (node_value (subtree key flags level (take (1024 * 2 ^ level) bytes) first))
    (node_value (subtree key flags level (drop (1024 * 2 ^ level) bytes) (first + 2 ^ level)))

-- the tree over bytes whose first chunk has the number first: n bytes have no more than 2 ^ n chunks
unfoldable pub tree : List ℕ → ℕ → List ℕ → ℕ → Output
tree key flags bytes first = subtree key flags (length bytes) bytes first

-- the hash of a list of bytes in plain mode (2.3)
unfoldable pub hash : List ℕ → List ℕ
hash bytes = root_bytes (tree iv 0 bytes 0)

-- at most 1024 bytes are one chunk
abbrev pub SmallIsChunk : Type 0
SmallIsChunk = (key : List ℕ) (flags : ℕ) (bytes : List ℕ) (first : ℕ) → length bytes ≤ 1024
    → tree key flags bytes first ≡ chunk_output key flags bytes first

-- more are a parent of two trees, of which the left one has 2 ^ level chunks, the largest power of
-- two that leaves at least one byte on the right
abbrev pub LargeIsParent : Type 0
LargeIsParent = (key : List ℕ) (flags : ℕ) (bytes : List ℕ) (first level : ℕ)
    → 1024 * 2 ^ level < length bytes → length bytes ≤ 1024 * 2 ^ (level + 1)
    → tree key flags bytes first ≡ parent_output key flags
    (node_value (tree key flags (take (1024 * 2 ^ level) bytes) first))
    (node_value (tree key flags (drop (1024 * 2 ^ level) bytes) (first + 2 ^ level)))
