-- The letters of a number's bits.
use Rattle.std.proofs.Common.{◌≡◌, ℕ, suc, ◌+◌, ◌-◌, ◌*◌, ◌/◌, ◌%◌, ◌^◌, ◌<◌, ◌≤◌, List, [], ◌∷◌, ◌++◌, refl, sym, ◌∙◌, ap, ap₂, append_assoc, append-nil, length, arith}
use Rattle.std.proofs.Math.Nat.{div-div-eq-div-mul}
use Rattle.std.proofs.lemmas.Nat.{pow-add}
use Rattle.std.proofs.lemmas.List.{length_push}
use Rattle.std.specs.Int.{bit_at}
use Rattle.std.specs.Int.Digits.{number_from_digits}
use Rattle.iscc_header.specs.Bits.{bits_of}
use Rattle.iscc_header.specs.Kinds.{main_of, sub_of}
use Rattle.iscc_header.specs.Headers.{header_bits}
use Rattle.iscc_header.specs.Unit64s.{IsUnit64}
use Rattle.iscc_header.proofs.BitLists.{bits_of-append}
use Rattle.iscc_header.proofs.EachBelow.{each_below}
use Rattle.std.specs.Str.{bytes_eq}
use Rattle.std.proofs.lemmas.Slice.Eq.{bytes_eq-Decides}
use Rattle.iscc_text.specs.Base32.{letter, letters}
use Rattle.iscc_header.specs.declared.unit.Unit64.{Unit64}
use Rattle.iscc_text.specs.UnitText.{unit_bits}

-- the bit j places above w
bit_above : (n w j i : ℕ) → i ≡ w + j → bit_at n i ≡ bit_at (n / 2 ^ w) j
bit_above n w j i e = rw (e, pow-add 2 w j, ← div-div-eq-div-mul n (2 ^ w) (2 ^ j)) refl

five_of : (q : ℕ) → ((((0 * 2 + bit_at q 4) * 2 + bit_at q 3) * 2 + bit_at q 2) * 2 + bit_at q 1) * 2 + bit_at q 0 ≡ q % 32
five_of q = omega arith

-- five bits of a number
five : (n w : ℕ) → number_from_digits 2 (bit_at n (suc (suc (suc (suc w)))) ∷ bit_at n (suc (suc (suc w))) ∷ bit_at n (suc (suc w)) ∷ bit_at n (suc w) ∷ bit_at n w ∷ []) ≡ n / 2 ^ w % 32
five n w =
    let q = n / 2 ^ w in
    rw (bit_above n w 4 (suc (suc (suc (suc w)))) (omega arith), bit_above n w 3 (suc (suc (suc w))) (omega arith), bit_above n w 2 (suc (suc w)) (omega arith), bit_above n w 1 (suc w) (omega arith), bit_above n w 0 w (omega arith)) (five_of q)

pub next_letter : (n w t : ℕ) → t ≡ w + 5 → letters (bits_of t n) ≡ letter (n / 2 ^ w % 32) ∷ letters (bits_of w n)
unfolding bits_of
next_letter n w t e =
    let long : t ≡ suc (suc (suc (suc (suc w)))) = omega arith in
    ap (λ k. letters (bits_of k n)) long ∙ ap (λ d. letter d ∷ letters (bits_of w n)) (five n w)

-- the header of a unit of 64 bits is 16 bits
pub header_is : (kind : ℕ) → kind < 13 → header_bits (main_of kind) (sub_of kind) 0 1 ≡ bits_of 16 ((main_of kind * 16 + sub_of kind) * 256 + 1)
unfolding bits_of
header_is kind h =
    (bytes_eq-Decides _ _).0
    (each_below 13 (λ k. bytes_eq (header_bits (main_of k) (sub_of k) 0 1) (bits_of 16 ((main_of k * 16 + sub_of k) * 256 + 1))) refl kind h)

-- one letter is written
pub letter_written : (before after total : List ℕ) (n i : ℕ) → i < 16 → before ++ letters (bits_of (5 * (16 - i)) n) ≡ total
    → after ≡ before ++ letter (n / 2 ^ (5 * (16 - 1 - i)) % 32) ∷ [] → after ++ letters (bits_of (5 * (16 - (i + 1))) n) ≡ total
letter_written before after total n i h left written =
    let w = 5 * (16 - 1 - i) in
    let next : 5 * (16 - (i + 1)) ≡ w = omega arith in
    ap₂ (λ bytes k. bytes ++ letters (bits_of k n)) written next
    ∙ append_assoc before (letter (n / 2 ^ w % 32) ∷ []) (letters (bits_of w n))
    ∙ ap (λ ls. before ++ ls) (sym (next_letter n w (5 * (16 - i)) (omega arith)))
    ∙ left

-- all letters are written
pub all_written : (bytes total : List ℕ) (n i : ℕ) → 16 ≤ i → bytes ++ letters (bits_of (5 * (16 - i)) n) ≡ total → bytes ≡ total
unfolding bits_of
all_written bytes total n i h left =
    let none : 5 * (16 - i) ≡ 0 = omega arith in
    sym (append-nil bytes) ∙ ap (λ k. bytes ++ letters (bits_of k n)) (sym none) ∙ left

-- the bits of a unit as those of one number
pub unit_bits_is : (unit : Unit64) → IsUnit64 unit → bits_of 80 (((main_of unit.kind * 16 + sub_of unit.kind) * 256 + 1) * 2 ^ 64 + unit.body) ≡ unit_bits unit
unit_bits_is unit h =
    bits_of-append 16 64 80 ((main_of unit.kind * 16 + sub_of unit.kind) * 256 + 1) unit.body h.body refl
    ∙ ap (λ front. front ++ bits_of 64 unit.body) (sym (header_is unit.kind h.kind))

pub one_longer : (before after : List ℕ) (x n i : ℕ) → after ≡ before ++ x ∷ [] → length before ≡ n + i → length after ≡ n + (i + 1)
one_longer before after x n i e len = rw e (omega (arith, length_push before x, len))
