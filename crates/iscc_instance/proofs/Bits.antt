-- The bits of a count of chunks, and what changes in them when it goes up by one.
use Rattle.std.proofs.Common.{◌≡◌, ℕ, ◌+◌, ◌-◌, ◌*◌, ◌/◌, ◌%◌, ◌^◌, ◌<◌, sym, ap, ◌∙◌, arith, shr-shr, pow-add, pow_pos}
use Rattle.std.proofs.lemmas.Nat.{shr_split, shr_high}
use Rattle.iscc_instance.specs.inner.Subtrees.{first_above}

-- a bit that is set adds its power of two
pub first_above-bit : (n l : ℕ) → first_above n l ≡ first_above n (l + 1) + n / 2 ^ l % 2 * 2 ^ l
first_above-bit n l =
    let half : n / 2 ^ l / 2 ^ 1 ≡ n / 2 ^ (l + 1) = shr-shr n l 1 in
    let double : 2 ^ (l + 1) ≡ 2 ^ l * 2 ^ 1 = pow-add 2 l 1 in
    let parts : n / 2 ^ l ≡ n / 2 ^ l / 2 * 2 + n / 2 ^ l % 2 = omega arith in
    rw (← half, double) (ap (λ (m : ℕ). m * 2 ^ l) parts ∙ omega arith)

-- the lowest bits of n are set up to bit l
abbrev pub LowBitsSet : ℕ → ℕ → Type 0
LowBitsSet n l = n % 2 ^ l + 1 ≡ 2 ^ l

-- then n + 1 is what stands above them, and one more
pub next-above : (n l : ℕ) → LowBitsSet n l → n + 1 ≡ first_above n l + 2 ^ l
next-above n l low = omega (arith, shr_split n l)

pub LowBitsSet-more : (n l : ℕ) → LowBitsSet n l → n / 2 ^ l % 2 ≡ 1 → LowBitsSet n (l + 1)
LowBitsSet-more n l low set =
    let double : 2 ^ (l + 1) ≡ 2 ^ l * 2 ^ 1 = pow-add 2 l 1 in
    let above : first_above n l ≡ first_above n (l + 1) + 1 * 2 ^ l = rw set at (first_above-bit n l) in
    omega (arith, shr_split n l, shr_split n (l + 1))

module _ (n l : ℕ) (low : LowBitsSet n l) where
  next-shifted : (n + 1) / 2 ^ l ≡ n / 2 ^ l + 1
  next-shifted =
      let whole : n + 1 ≡ (n / 2 ^ l + 1) * 2 ^ l + 0 = omega (arith, next-above n l low) in
      rw whole (shr_high (n / 2 ^ l + 1) l 0 (pow_pos l))

  -- bit l, which was clear, is set
  pub next-above_same : n / 2 ^ l % 2 ≡ 0 → first_above (n + 1) (l + 1) ≡ first_above n l
  next-above_same clear =
      let set : (n + 1) / 2 ^ l % 2 ≡ 1 = omega (arith, next-shifted) in
      let bit : first_above (n + 1) l ≡ first_above (n + 1) (l + 1) + 1 * 2 ^ l = rw set at (first_above-bit (n + 1) l) in
      let here : first_above (n + 1) l ≡ first_above n l + 2 ^ l = ap (λ (m : ℕ). m * 2 ^ l) next-shifted ∙ omega arith in
      omega arith

  -- the bits above it stay
  pub next-high : n / 2 ^ l % 2 ≡ 0 → (k : ℕ) → l < k → (n + 1) / 2 ^ k ≡ n / 2 ^ k
  next-high clear k above =
      let d : ℕ = k - (l + 1) in
      let place : l + (1 + d) ≡ k = omega arith in
      let halves : (n + 1) / 2 ^ l / 2 ^ 1 ≡ n / 2 ^ l / 2 ^ 1 = omega (arith, next-shifted) in
      let shift : (x : ℕ) → x / 2 ^ k ≡ x / 2 ^ l / 2 ^ 1 / 2 ^ d =
      λ x. ap (λ (i : ℕ). x / 2 ^ i) (sym place) ∙ sym (shr-shr x l (1 + d)) ∙ sym (shr-shr (x / 2 ^ l) 1 d) in
      shift (n + 1) ∙ ap (λ (y : ℕ). y / 2 ^ d) halves ∙ sym (shift n)

  -- the bits below it are clear
  pub next-low : (k : ℕ) → k < l → (n + 1) / 2 ^ k % 2 ≡ 0
  next-low k below =
      let d : ℕ = l - (k + 1) in
      let m : ℕ = n / 2 ^ l + 1 in
      let place : l ≡ d + 1 + k = omega arith in
      let power : 2 ^ l ≡ 2 ^ d * 2 ^ 1 * 2 ^ k = ap (λ (i : ℕ). 2 ^ i) place ∙ pow-add 2 (d + 1) k ∙ ap (λ (x : ℕ). x * 2 ^ k) (pow-add 2 d 1) in
      let whole : n + 1 ≡ m * 2 ^ d * 2 * 2 ^ k + 0 = omega (arith, next-above n l low, ap (λ (x : ℕ). m * x) power) in
      let shifted : (n + 1) / 2 ^ k ≡ m * 2 ^ d * 2 = ap (λ (x : ℕ). x / 2 ^ k) whole ∙ shr_high (m * 2 ^ d * 2) k 0 (pow_pos k) in
      rw shifted (omega arith)
