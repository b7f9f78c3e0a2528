use Rattle.std.proofs.Common.{◌≡◌, ℕ, ◌+◌, ◌*◌, ◌<◌, ◌≤◌, List, length, drop}
use Rattle.blake3_core.specs.Compression.{iv}
use Rattle.blake3_core.specs.Tree.{chunk_output, subtree}
use Rattle.iscc_instance.specs.inner.Subtrees.{Stands, first_above}
use Rattle.iscc_instance.proofs.subtrees.Subtrees.root.Given as goal

abbrev pub invariant-levels : goal.invariant-levels
invariant-levels l = (bytes : List ℕ) → Stands l.self bytes → l.fn.last ≡ chunk_output iv 0 (drop (1024 * l.self.count) bytes) l.self.count
    → length bytes ≤ 1024 * (l.self.count + 1) → (0 < l.self.count → 1024 * l.self.count < length bytes)
    → l.output ≡ subtree iv 0 l.level (drop (1024 * first_above l.self.count l.level) bytes) (first_above l.self.count l.level)
