-- How the last chunk follows the bytes.
use Rattle.std.proofs.Common.{◌≡◌, ℕ, ◌+◌, ◌-◌, ◌*◌, List, ◌++◌, length, take, drop, refl, sym, ap, ◌∙◌, arith, length-drop}
use Rattle.std.proofs.lemmas.List.{drop-drop, drop-append-le}
use Rattle.std.proofs.Math.Seq.{drop-append-add, take-append-add}
use Rattle.iscc_instance.specs.declared.state.State.{State}
use Rattle.iscc_instance.specs.inner.State.{HasBytes, state_len}

pub HasBytes-length : (s : State) (bytes : List ℕ) → HasBytes s bytes → state_len s ≡ length bytes
HasBytes-length s bytes has = omega (arith, has.stands.within, has.chunk.count, length-drop (1024 * s.subtrees.count) bytes)

-- chunk i of what comes after the first n chunks
pub chunk_of_rest : (bytes rest : List ℕ) (n i : ℕ) → rest ≡ drop (1024 * n) bytes
    → take (1024 * i + 1024 - 1024 * i) (drop (1024 * i) rest) ≡ take 1024 (drop (1024 * (n + i)) bytes)
chunk_of_rest bytes rest n i tail =
    let width : 1024 * i + 1024 - 1024 * i ≡ 1024 = omega arith in
    let place : 1024 * n + 1024 * i ≡ 1024 * (n + i) = omega arith in
    rw (width, tail, drop-drop (1024 * i) (1024 * n) bytes, place) refl

module _ (s : State) (bytes piece : List ℕ) (room : ℕ) (has : HasBytes s bytes) (full : s.chunk.len + room ≡ 1024) where
  -- the last chunk, filled up by the first bytes of a piece
  pub filled_chunk : drop (1024 * s.subtrees.count) bytes ++ take room piece ≡ take 1024 (drop (1024 * s.subtrees.count) (bytes ++ piece))
  filled_chunk =
      let start : ℕ = 1024 * s.subtrees.count in
      let whole : length (drop start bytes) + room ≡ 1024 = omega (arith, has.chunk.count) in
      rw (drop-append-le start bytes piece has.stands.within)
      (sym (ap (λ (n : ℕ). take n (drop start bytes ++ piece)) (sym whole) ∙ take-append-add (drop start bytes) piece room))

  -- what of the piece comes after it
  pub after_chunk : drop room piece ≡ drop (1024 * (s.subtrees.count + 1)) (bytes ++ piece)
  after_chunk =
      let end : 1024 * (s.subtrees.count + 1) ≡ length bytes + room = omega (arith, HasBytes-length s bytes has) in
      rw end (sym (drop-append-add bytes piece room))
