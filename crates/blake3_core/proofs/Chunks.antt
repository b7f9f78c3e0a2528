-- How a chunk's chaining value and its kept block follow the chunk as it grows.
use Rattle.std.proofs.Common.{◌≡◌, ℕ, zero, suc, ◌+◌, ◌-◌, ◌*◌, ◌/◌, ◌<◌, ◌≤◌, List, [], ◌++◌, length, take, drop, replicate, bit_or, refl, sym, ap, ◌∙◌, arith, length-append, length-drop, add-one}
use Rattle.std.proofs.lemmas.List.{take-append-le, drop-append-le, drop-drop, take_all, drop_all, append-nil, drop-replicate, length-replicate}
use Rattle.std.proofs.Math.Seq.{drop-append-add, take-append-add}
use Rattle.std.proofs.lemmas.Slice.{take-put_mid}
use Rattle.blake3_core.specs.declared.chunk.ChunkState.{ChunkState}
use Rattle.blake3_core.specs.declared.node.Output.{Output}
use Rattle.blake3_core.specs.Compression.{compress}
use Rattle.blake3_core.specs.Tree.{block_at, block_words, chunk_end, chunk_output, last_block, start_flag, value_after}
use Rattle.blake3_core.specs.Chunk.{HasChunk}
use borrow.Rule.Slice.PartMut.{put_mid, post_of}

-- zeros after a block change none of its words
pub block_words-filled : (b ys : List ℕ) → length b ≤ 64 → ys ≡ b → block_words (ys ++ drop (length b) (replicate 64 0)) ≡ block_words b
unfolding block_words
block_words-filled b ys short is =
    let zeros = drop-replicate {X = ℕ} (length b) 64 0 in
    let filled : List ℕ = b ++ replicate (64 - length b) 0 in
    let none : 64 - length filled ≡ 0 = omega (arith, length-append b (replicate (64 - length b) 0), length-replicate {A = ℕ} (64 - length b) 0) in
    rw (is, zeros, none, append-nil) refl

-- value_after reads only the blocks that it counts
pub value_after-append : (key : List ℕ) (flags : ℕ) (chunk more : List ℕ) (counter k : ℕ) → 64 * k ≤ length chunk
    → value_after key flags (chunk ++ more) counter k ≡ value_after key flags chunk counter k
unfolding value_after
value_after-append key flags chunk more counter zero h = refl
value_after-append key flags chunk more counter (suc k) h =
    let fits : 64 ≤ length (drop (64 * k) chunk) = omega (arith, length-drop (64 * k) chunk) in
    let block : take 64 (drop (64 * k) (chunk ++ more)) ≡ take 64 (drop (64 * k) chunk) =
    rw (drop-append-le (64 * k) chunk more (omega arith)) (take-append-le 64 (drop (64 * k) chunk) more fits) in
    rw (block, value_after-append key flags chunk more counter k (omega arith)) refl

-- one block more
pub value_after-next : (key : List ℕ) (flags : ℕ) (chunk : List ℕ) (counter k : ℕ) (input block result : List ℕ)
    → input ≡ value_after key flags chunk counter k → block ≡ block_at chunk k
    → result ≡ take 8 (compress input (block_words block) counter 64 (bit_or flags (start_flag k)))
    → result ≡ value_after key flags chunk counter (k + 1)
unfolding value_after
value_after-next key flags chunk counter k input block result at here e = rw (e, at, here, add-one) refl

-- the compression that ends a chunk, from what it reads
pub chunk_output-at : (key : List ℕ) (flags : ℕ) (bytes : List ℕ) (counter k f n : ℕ) (input block : List ℕ) (o : Output)
    → k ≡ last_block bytes → input ≡ value_after key flags bytes counter (last_block bytes) → block ≡ drop (64 * last_block bytes) bytes → f ≡ flags → n ≡ counter
    → o ≡ record { input = input; block = block_words block; counter = n; len = length block; flags = bit_or (bit_or f (start_flag k)) chunk_end }
    → o ≡ chunk_output key flags bytes counter
unfolding chunk_output
chunk_output-at key flags bytes counter k f n input block o place at here same number e =
    let last : ℕ = last_block bytes in
    let whole : take 64 (drop (64 * last) bytes) ≡ drop (64 * last) bytes = take_all 64 (drop (64 * last) bytes) (omega (arith, length-drop (64 * last) bytes)) in
    rw (e, at, here, place, same, number, whole) refl

module _ (key : List ℕ) (flags counter : ℕ) (s : ChunkState) (bytes piece : List ℕ) where
  -- a piece that the kept block has room for
  pub HasChunk-short : (used k : ℕ) (ys : List ℕ) → HasChunk key flags counter s bytes → used ≡ s.len - 64 * ((s.len - 1) / 64)
      → used + length piece ≤ 64 → length s.block ≡ 64 → ys ≡ piece
      → HasChunk key flags counter record { input = s.input; block = put_mid used k s.block ys; len = s.len + length piece; counter = s.counter; flags = s.flags } (bytes ++ piece)
  HasChunk-short used k ys has at room len is =
      let both : length (bytes ++ piece) ≡ length bytes + length piece = length-append bytes piece in
      let count : s.len ≡ length bytes = has.count in
      let same : last_block (bytes ++ piece) ≡ last_block bytes = omega arith in
      let start : 64 * last_block bytes ≤ length bytes = omega arith in
      let old : used ≡ length bytes - 64 * last_block bytes = omega arith in
      let more : length (bytes ++ piece) - 64 * last_block bytes ≡ used + length piece = omega arith in
      record {
        same_flags = has.same_flags;
        same_counter = has.same_counter;
        count = omega arith;
        compressed = rw (same, value_after-append key flags bytes piece counter (last_block bytes) start) has.compressed;
        kept =
            let placed : take (used + length piece) (put_mid used k s.block piece) ≡ take used s.block ++ piece =
            take-put_mid used k s.block piece (used + length piece) refl (omega arith) in
            rw (same, more, is, placed, drop-append-le (64 * last_block bytes) bytes piece start, old) (ap (λ (w : List ℕ). w ++ piece) has.kept);
      }

  -- the kept block is filled up by the first bytes of a longer piece
  pub filled_block : (used room k : ℕ) (ys : List ℕ) → HasChunk key flags counter s bytes → used ≡ s.len - 64 * ((s.len - 1) / 64)
      → used + room ≡ 64 → room ≤ length piece → room ≤ k → length s.block ≡ 64 → ys ≡ take room piece
      → put_mid used k s.block ys ≡ block_at (bytes ++ piece) (last_block bytes)
  filled_block used room k ys has at full fits past len is =
      let count : s.len ≡ length bytes = has.count in
      let begin : ℕ = 64 * last_block bytes in
      let start : begin ≤ length bytes = omega arith in
      let old : used ≡ length bytes - begin = omega arith in
      let none : post_of used k s.block ≡ [] = drop_all k (drop used s.block) (omega (arith, length-drop used s.block)) in
      let before : length (drop begin bytes) ≡ used = omega (arith, length-drop begin bytes) in
      let whole : 64 ≡ length (drop begin bytes) + room = omega arith in
      let parts : take 64 (drop begin bytes ++ piece) ≡ drop begin bytes ++ take room piece =
      ap (λ (n : ℕ). take n (drop begin bytes ++ piece)) whole ∙ take-append-add (drop begin bytes) piece room in
      rw (none, append-nil, is, drop-append-le begin bytes piece start, old, has.kept) (sym parts)

  -- that block's chaining value, and what is left of the piece
  pub filled_value : (used room k place : ℕ) (ys result : List ℕ) → HasChunk key flags counter s bytes → used ≡ s.len - 64 * ((s.len - 1) / 64)
      → used + room ≡ 64 → room ≤ length piece → room ≤ k → length s.block ≡ 64 → ys ≡ take room piece → 0 < used → place ≡ (s.len - 1) / 64
      → result ≡ take 8 (compress s.input (block_words (put_mid used k s.block ys)) s.counter 64 (bit_or s.flags (start_flag place)))
      → (result ≡ value_after key flags (bytes ++ piece) counter (place + 1)) × (drop room piece ≡ drop (64 * (place + 1)) (bytes ++ piece)) × (64 * (place + 1) ≤ length (bytes ++ piece))
  filled_value used room k place ys result has now full fits past len is some before e =
      let count : s.len ≡ length bytes = has.count in
      let last : place ≡ last_block bytes = omega arith in
      let input : s.input ≡ value_after key flags (bytes ++ piece) counter place =
      rw (last, value_after-append key flags bytes piece counter (last_block bytes) (omega arith)) has.compressed in
      let block : put_mid used k s.block ys ≡ block_at (bytes ++ piece) place = rw last (filled_block used room k ys has now full fits past len is) in
      let end : 64 * (place + 1) ≡ length bytes + room = omega arith in (
        value_after-next key flags (bytes ++ piece) counter place _ _ _ input block (rw (has.same_flags, has.same_counter) at e),
        rw end (sym (drop-append-add bytes piece room)),
        omega (arith, length-append bytes piece),
      )

-- a chunk's state after a last piece that begins at a block: rest is what comes after the first blocks
pub HasChunk-from : (key : List ℕ) (flags counter : ℕ) (bytes input ys post rest : List ℕ) (first count f n : ℕ)
    → f ≡ flags → n ≡ counter → input ≡ value_after key flags bytes counter (first + count)
    → rest ≡ drop (64 * first) bytes → 64 * first ≤ length bytes → 0 < length rest → count ≡ (length rest - 1) / 64 → ys ≡ drop (64 * count) rest
    → HasChunk key flags counter record { input = input; block = ys ++ post; len = 64 * first + length rest; counter = n; flags = f } bytes
HasChunk-from key flags counter bytes input ys post rest first count f n same number at tail within some places kept =
    let len : length rest ≡ length bytes - 64 * first = ap length tail ∙ length-drop (64 * first) bytes in
    let last : last_block bytes ≡ first + count = omega arith in
    let place : 64 * (first + count) ≡ 64 * first + 64 * count = omega arith in
    let end : ys ≡ drop (64 * (first + count)) bytes = kept ∙ ap (drop (64 * count)) tail ∙ rw (drop-drop (64 * count) (64 * first) bytes, place) refl in
    let size : length bytes - 64 * (first + count) ≡ length ys = omega (arith, ap length end, length-drop (64 * (first + count)) bytes) in
    record {
      same_flags = same;
      same_counter = number;
      count = omega arith;
      compressed = rw last at;
      kept = rw (last, size, take-append-le (length ys) ys post (omega arith), take_all (length ys) ys (omega arith)) end;
    }
