use Rattle.std.proofs.Common.{◌≡◌, ℕ, ◌+◌, ◌-◌, ◌*◌, ◌≤◌, ◌++◌, length, drop, arith, ap, sym, ◌∙◌, length-append}
use Rattle.std.proofs.lemmas.List.{drop-append-le, take_rest}
use Rattle.blake3_core.specs.Compression.{iv}
use Rattle.blake3_core.specs.Tree.{node_value}
use Rattle.iscc_instance.proofs.StateLemmas.{HasBytes-length, filled_chunk, after_chunk}
use Rattle.iscc_instance.proofs.SubtreeLemmas.{Stands-append, full_value-chunk}
use Rattle.iscc_instance.proofs.state.State.update.Goals as goal

pub returns-then-piece-room-clause-bytes : goal.returns-then-piece-room-clause-bytes
returns-then-piece-room-clause-bytes c = λ bytes has.
    let s = c.args.self.now in
    record {
      stands = Stands-append s.subtrees bytes c.args.piece.now has.stands;
      chunk = rw (drop-append-le (1024 * s.subtrees.count) bytes c.args.piece.now has.stands.within) (c.update.ensures.bytes iv 0 s.subtrees.count _ has.chunk);
      in_chunk = omega (arith, c.update.ensures.len);
      more = λ some. omega (arith, has.more some, c.update.ensures.len);
    }

pub returns-clause-bytes : goal.returns-clause-bytes
returns-clause-bytes c = λ bytes has.
    let s = c.args.self.now in
    let piece = c.args.piece.now in
    let number = s.subtrees.count in
    let room = 1024 - c.len-used.result in
    let full : s.chunk.len + room ≡ 1024 = omega arith in
    let within : 1024 * (number + 1) ≤ length (bytes ++ piece) = omega (arith, length-append bytes piece, HasBytes-length s bytes has) in
    let last = c.output.ensures iv 0 number _ (c.update-2.ensures.bytes iv 0 number _ has.chunk) in
    let chunk = c.value-value.ensures ∙ ap node_value last ∙ full_value-chunk (bytes ++ piece) _ number (filled_chunk s bytes piece room has full) in
    let stands = c.push.ensures.stands (bytes ++ piece) (Stands-append s.subtrees bytes piece has.stands) within chunk in
    let rest = take_rest piece room ∙ after_chunk s bytes piece room has full
    ∙ ap (λ (n : ℕ). drop (1024 * n) (bytes ++ piece)) (sym c.push.ensures.count) in
    c.begin_chunk-2.ensures.bytes (bytes ++ piece) stands rest
