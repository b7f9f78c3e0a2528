-- The complete subtrees that stand before the last chunk of the bytes so far (the BLAKE3 paper, 2.1).
use Rattle.std.specs.Prelude.{◌≡◌, ℕ, ◌+◌, ◌*◌, ◌/◌, ◌%◌, ◌^◌, ◌<◌, ◌≤◌, List, [], length, take, drop}
use Rattle.std.specs.List.{slice_index_or}
use Rattle.blake3_core.specs.Compression.{iv}
use Rattle.blake3_core.specs.Tree.{node_value, subtree}
use Rattle.iscc_instance.specs.declared.subtrees.Subtrees.{Subtrees}

-- how many of n chunks the subtrees of 2 ^ level chunks or more have: n without its lower bits
abbrev pub first_above : ℕ → ℕ → ℕ
first_above n level = n / 2 ^ level * 2 ^ level

-- the value of the complete subtree of 2 ^ level chunks whose first chunk has the number first
unfoldable pub full_value : List ℕ → ℕ → ℕ → List ℕ
full_value bytes level first = node_value (subtree iv 0 level (take (1024 * 2 ^ level) (drop (1024 * first) bytes)) first)

-- the first s.count chunks of bytes stand as complete subtrees: one of 2 ^ level chunks for each set
-- bit of the count, after the larger ones. A chunk is counted only when bytes follow it, since the
-- last chunk and the subtrees that it completes may be the root.
pub record Stands (s : Subtrees) (bytes : List ℕ) : Type 0 where
  pub within : 1024 * s.count ≤ length bytes
  pub values : (level : ℕ) → level < 54 → s.count / 2 ^ level % 2 ≡ 1
      → slice_index_or s.values level [] ≡ full_value bytes level (first_above s.count (level + 1))
