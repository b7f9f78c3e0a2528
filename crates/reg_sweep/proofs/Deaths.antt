-- A stamp has the place of a death where its low bits aren't 0.
use Rattle.std.proofs.Common.{◌≡◌, ◌≢◌, ℕ, ◌+◌, ◌*◌, ◌^◌, ◌%◌, ◌<◌, Bool, true, false, refl, ap, arith}
use Rattle.reg_words.specs.declared.word.StampWord.{StampWord}
use Rattle.reg_words.specs.declared.word.StampWord.TheVariants.{Unborn, Live, Dead}
use Rattle.reg_words.specs.Packing.{stamp_word}
use Rattle.reg_rule.specs.Moves.{is_dead}
use Rattle.reg_rule.specs.Steps.{FitsBits}

live_low : (word kind id : ℕ) → word ≡ 2 ^ 25 * kind + 2 ^ 29 * (id + 1) → word % 33554432 ≡ 0
live_low word kind id is = omega arith

dead_low : (word kind id death : ℕ) → death < 2 ^ 22 → word ≡ (death + 1) + 2 ^ 25 * kind + 2 ^ 29 * (id + 1) → word % 33554432 ≡ death + 1
dead_low word kind id death low is = omega arith

low_bits : (word : ℕ) (s : StampWord) → FitsBits s → word ≡ stamp_word s → (is_dead s ≡ true → word % 33554432 ≢ 0) × (is_dead s ≡ false → word % 33554432 ≡ 0)
unfolding stamp_word
low_bits word Unborn fits is = (λ e. absurd (cc), λ e. ap (λ (n : ℕ). n % 33554432) is)
low_bits word (Live kind id) fits is = (λ e. absurd (cc), λ e. live_low word kind id is)
low_bits word (Dead kind id death) fits is = (λ e none. let low = dead_low word kind id death fits.2 is in omega arith, λ e. absurd (cc))

-- a test of the low bits tells it
pub death_shows : (test : Bool) (word : ℕ) (s : StampWord) → FitsBits s → word ≡ stamp_word s → (test ≡ true → word % 33554432 ≢ 0) → (test ≡ false → word % 33554432 ≡ 0) → test ≡ is_dead s
death_shows test word s fits is some none = let low = low_bits word s fits is in by test (is_dead s) some none low.0 low.1 where
  by : (a b : Bool) → (a ≡ true → word % 33554432 ≢ 0) → (a ≡ false → word % 33554432 ≡ 0) → (b ≡ true → word % 33554432 ≢ 0) → (b ≡ false → word % 33554432 ≡ 0) → a ≡ b
  by true true p q r s = refl
  by false false p q r s = refl
  by true false p q r s = absurd (p refl (s refl))
  by false true p q r s = absurd (r refl (q refl))
