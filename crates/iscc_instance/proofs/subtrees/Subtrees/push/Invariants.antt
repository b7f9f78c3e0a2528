use Rattle.std.proofs.Common.{◌≡◌, ℕ, ◌+◌, ◌*◌, ◌≤◌, List, length}
use Rattle.iscc_instance.specs.inner.Subtrees.{Stands, first_above, full_value}
use Rattle.iscc_instance.proofs.Bits.{LowBitsSet}
use Rattle.iscc_instance.proofs.subtrees.Subtrees.push.Given as goal

abbrev pub invariant-levels : goal.invariant-levels
invariant-levels l = record {
  kept : l.self.values ≡ l.fn.self.values;
  counted : l.self.count ≡ l.count + 1;
  low : LowBitsSet l.count l.level;
  value : (bytes : List ℕ) → Stands l.fn.self bytes → 1024 * (l.count + 1) ≤ length bytes
      → l.chunk ≡ full_value bytes 0 l.count → l.value ≡ full_value bytes l.level (first_above l.count l.level);
}
