-- From the letters of a text back to the unit.
use Rattle.std.proofs.Common.{◌≡◌, ℕ, zero, suc, ◌+◌, ◌*◌, ◌/◌, ◌%◌, ◌^◌, ◌<◌, ◌≤◌, ◌++◌, length, refl, sym, ◌∙◌, ap, ap₂, subst, arith, lit<, lit≤}
use Rattle.std.specs.Prelude.{codes}
use Rattle.std.proofs.Math.Nat.{mod-lt, mod-one, mod-eq_of_lt, mul_comm, mul-le-mul_left, mul-le-mul_right}
use Rattle.std.proofs.Math.Arith.{mod-mul}
use Rattle.std.proofs.lemmas.Nat.{pow_pos, pow-add}
use Rattle.iscc_header.specs.Bits.{bits_of}
use Rattle.iscc_header.specs.Kinds.{main_of, sub_of}
use Rattle.iscc_text.specs.Base32.{letter, letters}
use Rattle.iscc_text.specs.inner.Letters.{digit, number_after}
use Rattle.iscc_text.proofs.LetterSteps.{next_letter, unit_bits_is}
use Rattle.iscc_header.specs.declared.unit.Unit64.{Unit64}
use Rattle.iscc_text.specs.UnitText.{unit_bits, unit_text}
use Rattle.iscc_header.specs.Unit64s.{IsUnit64}
use Rattle.iscc_header.proofs.KindFacts.{small_pair}

digit_letter : (d : ℕ) → d < 32 → digit (letter d) ≡ d
digit_letter d h = grind arith

below : (acc q : ℕ) → 1 ≤ q → (acc + 1) * q ≤ 2 ^ 100 → acc < 2 ^ 120
below acc q one h = omega (arith, h, mul-le-mul_left (acc + 1) one)

below_32 : (d : ℕ) → d < 32 → d ≤ 31
below_32 d h = omega arith

rearranged : (acc d p r : ℕ) → (acc * 32 + d) * p + r ≡ acc * (p * 32) + (d * p + r)
rearranged acc d p r = omega arith

pub number_after-letters : (k acc n : ℕ) → (acc + 1) * 2 ^ (5 * k) ≤ 2 ^ 100 → number_after acc (letters (bits_of (5 * k) n)) ≡ acc * 2 ^ (5 * k) + n % 2 ^ (5 * k)
unfolding bits_of
number_after-letters zero acc n h = omega (arith, mod-one n)
number_after-letters (suc k) acc n h =
    let w = 5 * k in
    let p = 2 ^ w in
    let d = n / p % 32 in
    let r = n % p in
    let small : d < 32 = mod-lt (n / p) (lit< tt) in
    let long : 5 * suc k ≡ w + 5 = omega arith in
    let power : 2 ^ (5 * suc k) ≡ p * 32 = ap (λ t. 2 ^ t) long ∙ pow-add 2 w 5 in
    let bound : (acc + 1) * (p * 32) ≤ 2 ^ 100 = subst (λ q. (acc + 1) * q ≤ 2 ^ 100) power h in
    let within : acc < 2 ^ 120 = below acc (p * 32) (omega (arith, pow_pos w)) bound in
    let kept : acc % 2 ^ 120 ≡ acc = mod-eq_of_lt within in
    let rest : n % 2 ^ (5 * suc k) ≡ d * p + r = ap (λ q. n % q) (power ∙ mul_comm p 32) ∙ mod-mul n (lit< tt) (pow_pos w) in
    ap (number_after acc) (next_letter n w (5 * suc k) long)
    ∙ ap₂ (λ a b. number_after (a * 32 + b) (letters (bits_of w n))) kept (digit_letter d small)
    ∙ number_after-letters k (acc * 32 + d) n (omega (arith, bound, mul-le-mul_right p (below_32 d small)))
    ∙ rearranged acc d p r
    ∙ ap₂ (λ q m. acc * q + m) (sym power) (sym rest)

-- the letters of a unit's bits
pub number_of_letters : (n : ℕ) → n < 2 ^ 80 → number_after 0 (letters (bits_of 80 n)) ≡ n
number_of_letters n h = number_after-letters 16 0 n (lit≤ tt) ∙ omega (arith, mod-eq_of_lt h)

-- a letter for each five bits
length-letters : (k n : ℕ) → length (letters (bits_of (5 * k) n)) ≡ k
unfolding bits_of
length-letters zero n = refl
length-letters (suc k) n = ap length (next_letter n (5 * k) (5 * suc k) (omega arith)) ∙ ap suc (length-letters k n)

-- the bits of a unit as one number
abbrev pub unit_number : Unit64 → ℕ
unit_number unit = ((main_of unit.kind * 16 + sub_of unit.kind) * 256 + 1) * 2 ^ 64 + unit.body

pub length-unit_text : (unit : Unit64) → IsUnit64 unit → length (unit_text unit) ≡ 21
unfolding unit_text
length-unit_text unit h = ap (λ bits. length (codes "ISCC:" ++ letters bits)) (sym (unit_bits_is unit h)) ∙ ap (λ n. suc (suc (suc (suc (suc n))))) (length-letters 16 (unit_number unit))

small_header : (unit : Unit64) → IsUnit64 unit → (main_of unit.kind * 16 + sub_of unit.kind) * 256 + 1 < 65536
small_header unit h = let small = small_pair unit.kind h.kind in omega (arith, small.0, small.1)

-- the letters of a unit's text give its number
pub text_number : (unit : Unit64) → IsUnit64 unit → number_after 0 (letters (unit_bits unit)) ≡ unit_number unit
text_number unit h =
    ap (λ bits. number_after 0 (letters bits)) (sym (unit_bits_is unit h))
    ∙ number_of_letters (unit_number unit) (omega (arith, small_header unit h, h.body))

pub number_parts : (header body : ℕ) → header < 65536 → body < 2 ^ 64 → ((header * 2 ^ 64 + body) / 2 ^ 64 % 65536 ≡ header) × ((header * 2 ^ 64 + body) % 2 ^ 64 ≡ body)
number_parts header body h b = (omega arith, omega arith)

pub unit_number-parts : (unit : Unit64) → IsUnit64 unit → (unit_number unit / 2 ^ 64 % 65536 ≡ (main_of unit.kind * 16 + sub_of unit.kind) * 256 + 1) × (unit_number unit % 2 ^ 64 ≡ unit.body)
unit_number-parts unit h = number_parts _ unit.body (small_header unit h) h.body

abbrev pub made : ℕ → ℕ → Unit64
made kind body = record { kind = kind; body = body }
