use Rattle.std.proofs.Common.{◌≡◌, ◌-◌, ◌*◌, ◌/◌, length, take, arith}
use Rattle.blake3_core.specs.Tree.{last_block}
use Rattle.blake3_core.proofs.Chunks.{chunk_output-at}
use Rattle.blake3_core.proofs.chunk.ChunkState.output.Goals as goal

pub returns : goal.returns
returns c = λ key flags counter bytes has.
    let s = c.args.self.now in
    let k = c.saturating_sub-last.result / 64 in
    let place : k ≡ last_block bytes = omega (arith, has.count) in
    let kept : s.len - 64 * k ≡ length bytes - 64 * last_block bytes = omega (arith, has.count) in
    chunk_output-at key flags bytes counter k s.flags s.counter s.input (take (s.len - 64 * k) s.block) _ place has.compressed
    (rw kept has.kept) has.same_flags has.same_counter c.last_output.ensures
