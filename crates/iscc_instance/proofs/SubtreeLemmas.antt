-- How the standing subtrees follow the bytes.
use Rattle.std.proofs.Common.{◌≡◌, ℕ, suc, ◌+◌, ◌*◌, ◌/◌, ◌%◌, ◌^◌, ◌<◌, ◌≤◌, List, [], ◌++◌, length, take, drop, slice_set, refl, sym, ap, ◌∙◌, arith, length-drop, length-append, add-one, pow-add, inl, inr}
use Rattle.std.proofs.lemmas.Nat.{shr_split}
use Rattle.std.proofs.Math.Nat.{mod-lt}
use Rattle.std.proofs.lemmas.Nat.{pow_pos, shr_le}
use Rattle.std.proofs.lemmas.Bool.{cases_lt}
use Rattle.std.proofs.lemmas.List.{drop-drop, drop-take, take-take, length-take-le, take-append-le, drop-append-le, get_or-set_same, get_or-set_other}
use Rattle.blake3_core.specs.declared.node.Output.{Output}
use Rattle.blake3_core.specs.Compression.{iv}
use Rattle.blake3_core.specs.Tree.{chunk_output, node_value, parent_output, subtree}
use Rattle.blake3_core.proofs.Trees.{subtree-fits, subtree-splits}
use Rattle.iscc_instance.specs.declared.subtrees.Subtrees.{Subtrees}
use Rattle.iscc_instance.specs.inner.Subtrees.{Stands, first_above, full_value}
use Rattle.iscc_instance.proofs.Bits.{LowBitsSet, first_above-bit, next-above_same, next-above, next-high, next-low, LowBitsSet-more}

pub full_value-append : (bytes more : List ℕ) (level first : ℕ) → 1024 * (first + 2 ^ level) ≤ length bytes
    → full_value (bytes ++ more) level first ≡ full_value bytes level first
unfolding full_value
full_value-append bytes more level first within =
    let rest : List ℕ = drop (1024 * first) bytes in
    let fits : 1024 * 2 ^ level ≤ length rest = omega (arith, length-drop (1024 * first) bytes) in
    rw (drop-append-le (1024 * first) bytes more (omega arith), take-append-le (1024 * 2 ^ level) rest more fits) refl

-- two neighbours of one size are a subtree of the next
pub full_value-pair : (bytes : List ℕ) (level first : ℕ) → 1024 * (first + 2 ^ (level + 1)) ≤ length bytes
    → node_value (parent_output iv 0 (full_value bytes level first) (full_value bytes level (first + 2 ^ level))) ≡ full_value bytes (level + 1) first
unfolding full_value
full_value-pair bytes level first within =
    let size : ℕ = 1024 * 2 ^ level in
    let rest : List ℕ = drop (1024 * first) bytes in
    let double : 2 ^ (level + 1) ≡ 2 ^ level * 2 ^ 1 = pow-add 2 level 1 in
    let both : 1024 * 2 ^ (level + 1) ≡ size + size = omega arith in
    let whole : List ℕ = take (size + size) rest in
    let len : length whole ≡ size + size = length-take-le (size + size) rest (omega (arith, length-drop (1024 * first) bytes)) in
    let positive : 0 < 2 ^ level = pow_pos level in
    let left : take size whole ≡ take size rest = take-take size (size + size) rest (omega arith) in
    let place : 1024 * first + size ≡ 1024 * (first + 2 ^ level) = omega arith in
    let right : drop size whole ≡ take size (drop (1024 * (first + 2 ^ level)) bytes) =
    rw (drop-take size size rest, drop-drop size (1024 * first) bytes, place) refl in
    let cut = subtree-splits iv 0 level whole first (omega arith) in
    rw (both, add-one) (sym (ap node_value (rw (left, right) at cut)))

-- the same where the lowest bits of the count are set: the subtree that grows to the next size
pub full_value-climb : (bytes left right value : List ℕ) (n level : ℕ) → LowBitsSet n level → n / 2 ^ level % 2 ≡ 1 → 1024 * (n + 1) ≤ length bytes
    → left ≡ full_value bytes level (first_above n (level + 1)) → right ≡ full_value bytes level (first_above n level)
    → value ≡ node_value (parent_output iv 0 left right) → value ≡ full_value bytes (level + 1) (first_above n (level + 1))
full_value-climb bytes left right value n level low set within lefts rights made =
    let start : first_above n level ≡ first_above n (level + 1) + 2 ^ level = rw set at (first_above-bit n level) ∙ omega arith in
    let above = next-above n (level + 1) (LowBitsSet-more n level low set) in
    made ∙ rw (lefts, rights, start) (full_value-pair bytes level (first_above n (level + 1)) (omega arith))

-- one chunk more: every subtree below the first clear bit is taken in

pub Stands-next : (s t : Subtrees) (bytes value : List ℕ) (level : ℕ) → Stands s bytes → LowBitsSet s.count level
    → s.count / 2 ^ level % 2 ≡ 0 → level < length s.values → 1024 * (s.count + 1) ≤ length bytes
    → value ≡ full_value bytes level (first_above s.count level) → t.values ≡ slice_set s.values level value → t.count ≡ s.count + 1
    → Stands t bytes
Stands-next s t bytes value level stands low clear fits within is values count = record {
  within = omega arith;
  values = λ k lt set. elim (cases_lt k level) [
    | inl below ↦ absurd (omega (arith, next-low s.count level low k below, ap (λ (n : ℕ). n / 2 ^ k % 2) count))
    | inr from ↦ elim (cases_lt level k) [
      | inl above ↦
          let high : (s.count + 1) / 2 ^ k ≡ s.count / 2 ^ k = next-high s.count level low clear k above in
          let higher : (s.count + 1) / 2 ^ (k + 1) ≡ s.count / 2 ^ (k + 1) = next-high s.count level low clear (k + 1) (omega arith) in
          let before = stands.values k lt (sym (ap (λ (n : ℕ). n % 2) high) ∙ rw count at set) in
          rw (values, count, higher) (get_or-set_other s.values level k value [] (omega arith) ∙ before)
      | inr upto ↦
          let same : k ≡ level = omega arith in
          let start : first_above (s.count + 1) (level + 1) ≡ first_above s.count level = next-above_same s.count level low clear in
          rw (values, count, same, start) (get_or-set_same s.values level value [] fits ∙ is)
    ]
  ];
}

module _ (bytes : List ℕ) (n level : ℕ) (o : Output) (ends : length bytes ≤ 1024 * (n + 1))
    (here : o ≡ subtree iv 0 level (drop (1024 * first_above n level) bytes) (first_above n level)) where
  rest-fits : length (drop (1024 * first_above n level) bytes) ≤ 1024 * 2 ^ level
  rest-fits =
      let below : n % 2 ^ level < 2 ^ level = mod-lt n (pow_pos level) in
      omega (arith, length-drop (1024 * first_above n level) bytes, shr_split n level)

  -- no subtree of this size stands: the rest is the same one level up
  pub climb-clear : n / 2 ^ level % 2 ≡ 0 → o ≡ subtree iv 0 (level + 1) (drop (1024 * first_above n (level + 1)) bytes) (first_above n (level + 1))
  climb-clear clear =
      let same : first_above n (level + 1) ≡ first_above n level = sym (rw clear at (first_above-bit n level) ∙ omega arith) in
      rw (same, add-one) (here ∙ sym (subtree-fits iv 0 level (drop (1024 * first_above n level) bytes) (first_above n level) rest-fits))

  -- one stands: it is the left part, and the rest the right one
  pub climb-set : (left : List ℕ) (up : Output) → n / 2 ^ level % 2 ≡ 1 → (0 < n → 1024 * n < length bytes)
      → left ≡ full_value bytes level (first_above n (level + 1)) → up ≡ parent_output iv 0 left (node_value o)
      → up ≡ subtree iv 0 (level + 1) (drop (1024 * first_above n (level + 1)) bytes) (first_above n (level + 1))
  unfolding full_value
  climb-set left up set more is made =
      let first : ℕ = first_above n (level + 1) in
      let size : ℕ = 1024 * 2 ^ level in
      let rest : List ℕ = drop (1024 * first) bytes in
      let start : first_above n level ≡ first + 2 ^ level = rw set at (first_above-bit n level) ∙ omega arith in
      let place : 1024 * first + size ≡ 1024 * (first + 2 ^ level) = omega arith in
      let right : drop size rest ≡ drop (1024 * (first + 2 ^ level)) bytes = rw (drop-drop size (1024 * first) bytes, place) refl in
      let some : 0 < n = omega (arith, shr_le n level) in
      let long : size < length rest = omega (arith, more some, length-drop (1024 * first) bytes, shr_split n level) in
      let cut = subtree-splits iv 0 level rest first long in
      let below : o ≡ subtree iv 0 level (drop (1024 * (first + 2 ^ level)) bytes) (first + 2 ^ level) = rw start at here in
      let level_up : suc level ≡ level + 1 = omega arith in
      made ∙ rw (is, below) (sym (rw right at cut) ∙ ap (λ (k : ℕ). subtree iv 0 k rest first) level_up)

-- a chunk is a subtree of one chunk
pub full_value-chunk : (bytes chunk : List ℕ) (first : ℕ) → chunk ≡ take 1024 (drop (1024 * first) bytes)
    → node_value (chunk_output iv 0 chunk first) ≡ full_value bytes 0 first
unfolding full_value subtree
full_value-chunk bytes chunk first is = ap (λ (w : List ℕ). node_value (chunk_output iv 0 w first)) is

-- subtrees that stand still stand when bytes come after them
pub Stands-append : (s : Subtrees) (bytes more : List ℕ) → Stands s bytes → Stands s (bytes ++ more)
Stands-append s bytes more stands = record {
  within = omega (arith, stands.within, length-append bytes more);
  values = λ level lt set.
      let start : first_above s.count level ≡ first_above s.count (level + 1) + 1 * 2 ^ level = rw set at (first_above-bit s.count level) in
      stands.values level lt set
      ∙ sym (full_value-append bytes more level (first_above s.count (level + 1)) (omega (arith, stands.within, shr_split s.count level)));
}
