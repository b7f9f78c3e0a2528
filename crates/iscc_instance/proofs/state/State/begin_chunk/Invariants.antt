use Rattle.std.proofs.Common.{◌≡◌, ℕ, ◌+◌, ◌*◌, List, drop}
use Rattle.iscc_instance.specs.inner.Subtrees.{Stands}
use Rattle.iscc_instance.proofs.state.State.begin_chunk.Given as goal

abbrev pub invariant-chunks : goal.invariant-chunks
invariant-chunks l = record {
  counted : l.self.subtrees.count ≡ l.fn.self.subtrees.count + l.i;
  stands : (bytes : List ℕ) → Stands l.fn.self.subtrees bytes → l.rest ≡ drop (1024 * l.fn.self.subtrees.count) bytes
      → Stands l.self.subtrees bytes;
}
