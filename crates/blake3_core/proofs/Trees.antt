-- A tree at each level that its bytes fit.
use Rattle.std.proofs.Common.{◌≡◌, ℕ, zero, suc, ◌+◌, ◌*◌, ◌^◌, ◌<◌, ◌≤◌, true, false, nat_le, List, length, take, drop, refl, sym, ap, ◌∙◌, arith, add-one, inl, inr, lit<, length-drop}
use Rattle.std.proofs.Math.Nat.{two-pow-succ}
use Rattle.std.proofs.Math.Pow.{pow_mono}
use Rattle.std.proofs.lemmas.List.{length-take-le}
use Rattle.std.proofs.lemmas.Bool.{cases_lt}
use Rattle.std.proofs.lemmas.Bool.Decides.{nat_tests}
use Rattle.blake3_core.specs.Tree.{subtree, parent_output, node_value, tree, chunk_output}

-- n chunks need no more levels than n
below_pow : (n : ℕ) → n < 2 ^ n
below_pow zero = lit< tt
below_pow (suc n) = omega (arith, below_pow n, two-pow-succ n)

fits_above : (n a b : ℕ) → a ≤ b → n ≤ 1024 * 2 ^ a → n ≤ 1024 * 2 ^ b
fits_above n a b le fits = omega (arith, pow_mono {i = a} {j = b} le)

module _ (key : List ℕ) (flags : ℕ) where
  -- bytes that fit a level make the same tree one level up
  pub subtree-fits : (level : ℕ) (bytes : List ℕ) (first : ℕ) → length bytes ≤ 1024 * 2 ^ level
      → subtree key flags (suc level) bytes first ≡ subtree key flags level bytes first
  unfolding subtree
  subtree-fits level bytes first fits =
      let test : nat_le (length bytes) (1024 * 2 ^ level) ≡ true = grind (arith, nat_tests) in
      rw test refl

  -- bytes that do not are cut after the left subtree of that level
  pub subtree-splits : (level : ℕ) (bytes : List ℕ) (first : ℕ) → 1024 * 2 ^ level < length bytes
      → subtree key flags (suc level) bytes first ≡ parent_output key flags
      (node_value (subtree key flags level (take (1024 * 2 ^ level) bytes) first))
      (node_value (subtree key flags level (drop (1024 * 2 ^ level) bytes) (first + 2 ^ level)))
  unfolding subtree
  subtree-splits level bytes first long =
      let test : nat_le (length bytes) (1024 * 2 ^ level) ≡ false = grind (arith, nat_tests) in
      rw test refl

  subtree-down : (b a : ℕ) (bytes : List ℕ) (first : ℕ) → a ≤ b → length bytes ≤ 1024 * 2 ^ a
      → subtree key flags b bytes first ≡ subtree key flags a bytes first
  subtree-down zero a bytes first le fits =
      let same : zero ≡ a = omega arith in
      ap (λ (n : ℕ). subtree key flags n bytes first) same
  subtree-down (suc b) a bytes first le fits = elim (cases_lt a (suc b)) [
    | inl lt ↦ subtree-fits b bytes first (fits_above (length bytes) a b (omega arith) fits) ∙ subtree-down b a bytes first (omega arith) fits
    | inr ge ↦
        let same : suc b ≡ a = omega arith in
        ap (λ (n : ℕ). subtree key flags n bytes first) same
  ]

  -- the tree is the subtree at any level that its bytes fit
  pub tree-subtree : (level : ℕ) (bytes : List ℕ) (first : ℕ) → length bytes ≤ 1024 * 2 ^ level
      → tree key flags bytes first ≡ subtree key flags level bytes first
  unfolding tree
  tree-subtree level bytes first fits = elim (cases_lt level (length bytes)) [
    | inl lt ↦ subtree-down (length bytes) level bytes first (omega arith) fits
    | inr ge ↦ sym (subtree-down level (length bytes) bytes first ge (omega (arith, below_pow (length bytes))))
  ]

  pub tree-small : (bytes : List ℕ) (first : ℕ) → length bytes ≤ 1024 → tree key flags bytes first ≡ chunk_output key flags bytes first
  unfolding subtree
  tree-small bytes first fits = tree-subtree 0 bytes first fits

  pub tree-large : (bytes : List ℕ) (first level : ℕ) → 1024 * 2 ^ level < length bytes → length bytes ≤ 1024 * 2 ^ (level + 1)
      → tree key flags bytes first ≡ parent_output key flags
      (node_value (tree key flags (take (1024 * 2 ^ level) bytes) first))
      (node_value (tree key flags (drop (1024 * 2 ^ level) bytes) (first + 2 ^ level)))
  tree-large bytes first level long fits =
      let size : ℕ = 1024 * 2 ^ level in
      let next : 2 ^ (level + 1) ≡ 2 ^ level + 2 ^ level = rw add-one (two-pow-succ level) in
      let whole : length bytes ≤ 1024 * 2 ^ suc level = omega (arith, two-pow-succ level) in
      let left = tree-subtree level (take size bytes) first (omega (arith, length-take-le size bytes (omega arith))) in
      let right = tree-subtree level (drop size bytes) (first + 2 ^ level) (omega (arith, length-drop size bytes)) in
      tree-subtree (suc level) bytes first whole ∙ subtree-splits level bytes first long ∙ rw (left, right) refl
