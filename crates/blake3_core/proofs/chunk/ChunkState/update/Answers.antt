use Rattle.std.proofs.Common.{◌≡◌, List, ℕ, [], ◌++◌, ◌-◌, ◌*◌, ◌/◌, refl, sym, arith, ap, ◌∙◌}
use Rattle.std.proofs.lemmas.List.{drop_all, take_rest}
use Rattle.blake3_core.specs.Tree.{last_block, value_after}
use Rattle.blake3_core.proofs.Chunks.{HasChunk-short, filled_value}
use Rattle.blake3_core.proofs.chunk.ChunkState.update.Goals as goal

pub returns-then-piece-room-clause-bytes : goal.returns-then-piece-room-clause-bytes
returns-then-piece-room-clause-bytes c = λ key flags counter bytes has.
    HasChunk-short key flags counter c.args.self.now bytes c.args.piece.now _ _ _ has (rw c.saturating_sub-before.ensures refl) (omega arith) (omega arith) c.copy_from_slice.ensures.after

pub returns-then-used-eq0-clause-bytes : goal.returns-then-used-eq0-clause-bytes
unfolding value_after
returns-then-used-eq0-clause-bytes c = λ key flags counter bytes has.
    let none : bytes ≡ [] = drop_all 0 bytes (omega (arith, has.count)) in
    let first : last_block bytes ≡ 0 = omega (arith, has.count) in
    c.continue_from.ensures.bytes key flags counter _ has.same_flags has.same_counter
    (has.compressed ∙ ap (value_after key flags bytes counter) first) (sym (ap (λ (b : List ℕ). b ++ c.args.piece.now) none)) (omega arith)

pub returns-clause-bytes : goal.returns-clause-bytes
returns-clause-bytes c = λ key flags counter bytes has.
    let s = c.args.self.now in
    let used = s.len - 64 * (c.saturating_sub-before.result / 64) in
    let f = filled_value key flags counter s bytes c.args.piece.now used (64 - used) _ _ _ _ has (rw c.saturating_sub-before.ensures refl)
    (omega arith) (omega arith) (omega arith) (omega arith) c.copy_from_slice-2.ensures.after (omega arith) (rw c.saturating_sub-before.ensures refl) c.next_value-self.ensures in
    c.continue_from-2.ensures.bytes key flags counter _ has.same_flags has.same_counter f.0 (take_rest c.args.piece.now _ ∙ f.1) f.2
