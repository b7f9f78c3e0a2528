use Rattle.std.proofs.Common.{◌≡◌, ℕ, ◌+◌, ◌*◌, List, drop}
use Rattle.blake3_core.specs.Tree.{value_after}
use Rattle.blake3_core.proofs.chunk.value_after.Given as goal

abbrev pub invariant-blocks-2 : goal.invariant-blocks-2
invariant-blocks-2 l = (key chunk : List ℕ) → l.input ≡ value_after key l.flags chunk l.counter l.first
    → l.bytes ≡ drop (64 * l.first) chunk → l.value ≡ value_after key l.flags chunk l.counter (l.first + l.i)
