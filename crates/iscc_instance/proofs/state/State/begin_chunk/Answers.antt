use Rattle.std.proofs.Common.{◌+◌, ◌*◌, ◌≤◌, length, arith, ap, ◌∙◌, length-drop}
use Rattle.iscc_instance.proofs.StateLemmas.{chunk_of_rest}
use Rattle.iscc_instance.proofs.SubtreeLemmas.{full_value-chunk}
use Rattle.iscc_instance.proofs.state.State.begin_chunk.Goals as goal

pub chunks-preserved : goal.chunks-preserved
chunks-preserved c =
    let n = c.args.self.now.subtrees.count in
    let counted = c.chunks.invariant.counted in
    record {
      counted = omega (arith, c.push.ensures.count);
      stands = λ bytes stands tail.
          let within : 1024 * (n + c.chunks.i + 1) ≤ length bytes = omega (arith, ap length tail, length-drop (1024 * n) bytes) in
          let number = c.count-number.ensures ∙ counted in
          let chunk = rw number at c.chunk_value-value.ensures in
          let value = chunk ∙ full_value-chunk bytes _ (n + c.chunks.i) (chunk_of_rest bytes c.args.rest.now n c.chunks.i tail) in
          c.push.ensures.stands bytes (c.chunks.invariant.stands bytes stands tail) (rw counted within) (rw counted value);
    }
