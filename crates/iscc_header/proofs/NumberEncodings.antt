-- The encodings of numbers: their rows, and that none begins another.
use Rattle.std.proofs.Common.{◌≡◌, ℕ, zero, suc, ◌+◌, ◌-◌, ◌*◌, ◌%◌, ◌^◌, ◌<◌, ◌≤◌, List, [], ◌∷◌, ◌++◌, refl, sym, ◌∙◌, ap, ap₂, append_assoc, length, length-append, append-nil, take, drop, get_or, arith, inl, inr}
use Rattle.std.specs.Prelude.{◌==◌, if◌then◌else◌}
use Rattle.std.specs.Int.Digits.{number_from_digits, number_from_digits_after}
use Rattle.std.specs.Int.{bit_at}
use Rattle.std.proofs.Math.Nat.{mod-one, mod-eq_of_lt, pow-suc}
use Rattle.std.proofs.lemmas.Bool.{lt-ltb, le-ltb, cases_lt}
use Rattle.std.proofs.lemmas.List.{take_at, drop_at}
use Rattle.iscc_header.specs.Bits.{bits_of}
use Rattle.iscc_header.specs.Headers.{number_bits, BeginsWithNumber, EndsWithinNumber, BeginsWithNoNumber}
use Rattle.iscc_header.proofs.BitLists.{length-bits_of, bits_of-append, mod_of_bits}

-- the four rows, each as a prefix and some low bits
row_1 : (n : ℕ) → n < 8 → number_bits n ≡ 0 ∷ bits_of 3 n
row_1 n h = rw (lt-ltb n 8 h) refl

row_2 : (n : ℕ) → 8 ≤ n → n < 72 → number_bits n ≡ 1 ∷ 0 ∷ bits_of 6 (n - 8)
row_2 n l h = rw (le-ltb n 8 l, lt-ltb n 72 h) refl

row_3 : (n : ℕ) → 72 ≤ n → n < 584 → number_bits n ≡ 1 ∷ 1 ∷ 0 ∷ bits_of 9 (n - 72)
row_3 n l h = rw (le-ltb n 8 (omega arith), le-ltb n 72 l, lt-ltb n 584 h) refl

row_4 : (n : ℕ) → 584 ≤ n → number_bits n ≡ 1 ∷ 1 ∷ 1 ∷ 0 ∷ bits_of 12 (n - 584)
row_4 n l = rw (le-ltb n 8 (omega arith), le-ltb n 72 (omega arith), le-ltb n 584 l) refl

-- the four rows, each as the bits of one number
pub nibbles_1 : (n : ℕ) → n < 8 → bits_of 4 n ≡ number_bits n
unfolding bits_of
nibbles_1 n h = ap (bits_of 4) (let none : n ≡ 0 * 2 ^ 3 + n = omega arith in none) ∙ bits_of-append 1 3 4 0 n h refl ∙ sym (row_1 n h)

pub nibbles_2 : (n : ℕ) → 8 ≤ n → n < 72 → bits_of 8 (128 + (n - 8)) ≡ number_bits n
unfolding bits_of
nibbles_2 n l h = bits_of-append 2 6 8 2 (n - 8) (omega arith) refl ∙ sym (row_2 n l h)

pub nibbles_3 : (n : ℕ) → 72 ≤ n → n < 584 → bits_of 12 (3072 + (n - 72)) ≡ number_bits n
unfolding bits_of
nibbles_3 n l h = bits_of-append 3 9 12 6 (n - 72) (omega arith) refl ∙ sym (row_3 n l h)

pub nibbles_4 : (n : ℕ) → 584 ≤ n → n < 4680 → bits_of 16 (57344 + (n - 584)) ≡ number_bits n
unfolding bits_of
nibbles_4 n l h = bits_of-append 4 12 16 14 (n - 584) (omega arith) refl ∙ sym (row_4 n l)

pub length-number_bits : (n : ℕ) → n < 4680 → (k : ℕ) × (length (number_bits n) ≡ 4 * k) × (1 ≤ k) × (k ≤ 4) × (n < 8 → k ≡ 1)
length-number_bits n h =
    elim (cases_lt n 8) [
      | inl a ↦ (1, ap length (sym (nibbles_1 n a)) ∙ length-bits_of 4 n, omega arith, omega arith, λ _. refl)
      | inr b ↦ elim (cases_lt n 72) [
        | inl a ↦ (2, ap length (sym (nibbles_2 n b a)) ∙ length-bits_of 8 _, omega arith, omega arith, λ k. absurd (omega arith))
        | inr b' ↦ elim (cases_lt n 584) [
          | inl a ↦ (3, ap length (sym (nibbles_3 n b' a)) ∙ length-bits_of 12 _, omega arith, omega arith, λ k. absurd (omega arith))
          | inr b'' ↦ (4, ap length (sym (nibbles_4 n b'' h)) ∙ length-bits_of 16 _, omega arith, omega arith, λ k. absurd (omega arith))
        ]
      ]
    ]

-- the number of some bits
scaled : (a b p r : ℕ) → (a * 2 + b) * p + r ≡ a * (p * 2) + (b * p + r)
scaled a b p r = omega arith

number_after-bits_of : (w a n : ℕ) → number_from_digits_after 2 a (bits_of w n) ≡ a * 2 ^ w + n % 2 ^ w
unfolding bits_of
number_after-bits_of zero a n = omega (arith, mod-one n)
number_after-bits_of (suc w) a n =
    number_after-bits_of w (a * 2 + bit_at n w) n
    ∙ scaled a (bit_at n w) (2 ^ w) (n % 2 ^ w)
    ∙ ap₂ (λ p r. a * p + r) (sym (pow-suc 2 w)) (sym (mod_of_bits w n))

number-bits_of : (w n : ℕ) → n < 2 ^ w → number_from_digits 2 (bits_of w n) ≡ n
number-bits_of w n h = number_after-bits_of w 0 n ∙ omega (arith, mod-eq_of_lt h)

-- the number at the front of some bits, and the bits after it
front_number : ℕ → ℕ → List ℕ → ℕ × List ℕ
front_number least w bits = (least + number_from_digits 2 (take w bits), drop w bits)

unfoldable front : List ℕ → ℕ × List ℕ
front bits =
    if get_or bits 0 0 == 0 then front_number 0 3 (drop 1 bits)
    else if get_or bits 1 0 == 0 then front_number 8 6 (drop 2 bits)
    else if get_or bits 2 0 == 0 then front_number 72 9 (drop 3 bits)
    else front_number 584 12 (drop 4 bits)

front_number-bits : (least w n : ℕ) (rest : List ℕ) → least ≤ n → n - least < 2 ^ w → front_number least w (bits_of w (n - least) ++ rest) ≡ (n, rest)
unfolding front_number
front_number-bits least w n rest l h =
    let k = n - least in
    let number : least + number_from_digits 2 (take w (bits_of w k ++ rest)) ≡ n =
    ap (λ bits. least + number_from_digits 2 bits) (take_at (bits_of w k) rest w (length-bits_of w k)) ∙ ap (λ m. least + m) (number-bits_of w k h) ∙ omega arith in
    ap₂ (λ m bits. (m, bits)) number (drop_at (bits_of w k) rest w (length-bits_of w k))

front-number_bits : (n : ℕ) (rest : List ℕ) → n < 4680 → front (number_bits n ++ rest) ≡ (n, rest)
unfolding front
front-number_bits n rest h =
    elim (cases_lt n 8) [
      | inl a ↦ ap (λ bits. front (bits ++ rest)) (row_1 n a ∙ ap (λ k. 0 ∷ bits_of 3 k) (let same : n ≡ n - 0 = omega arith in same)) ∙ front_number-bits 0 3 n rest (omega arith) (omega arith)
      | inr b ↦ elim (cases_lt n 72) [
        | inl a ↦ ap (λ bits. front (bits ++ rest)) (row_2 n b a) ∙ front_number-bits 8 6 n rest b (omega arith)
        | inr b' ↦ elim (cases_lt n 584) [
          | inl a ↦ ap (λ bits. front (bits ++ rest)) (row_3 n b' a) ∙ front_number-bits 72 9 n rest b' (omega arith)
          | inr b'' ↦ ap (λ bits. front (bits ++ rest)) (row_4 n b'') ∙ front_number-bits 584 12 n rest b'' (omega arith)
        ]
      ]
    ]

-- no encoding begins another
pub same_number : (m n : ℕ) (x y : List ℕ) → m < 4680 → n < 4680 → number_bits m ++ x ≡ number_bits n ++ y → (m ≡ n) × (x ≡ y)
same_number m n x y h k e =
    let both : (m, x) ≡ (n, y) = sym (front-number_bits m x h) ∙ ap front e ∙ front-number_bits n y k in
    (ap (λ (p : ℕ × List ℕ). p.0) both, ap (λ (p : ℕ × List ℕ). p.1) both)

-- no encoding begins with the nibble 15
no_fifteen : (n : ℕ) (x y : List ℕ) → n < 4680 → number_bits n ++ x ≡ 1 ∷ 1 ∷ 1 ∷ 1 ∷ y → ⊥
no_fifteen n x y h e =
    elim (cases_lt n 8) [
      | inl a ↦ (let other : 0 ∷ (bits_of 3 n ++ x) ≡ 1 ∷ 1 ∷ 1 ∷ 1 ∷ y = ap (λ bits. bits ++ x) (sym (row_1 n a)) ∙ e in cc)
      | inr b ↦ elim (cases_lt n 72) [
        | inl a ↦ (let other : 1 ∷ 0 ∷ (bits_of 6 (n - 8) ++ x) ≡ 1 ∷ 1 ∷ 1 ∷ 1 ∷ y = ap (λ bits. bits ++ x) (sym (row_2 n b a)) ∙ e in cc)
        | inr b' ↦ elim (cases_lt n 584) [
          | inl a ↦ (let other : 1 ∷ 1 ∷ 0 ∷ (bits_of 9 (n - 72) ++ x) ≡ 1 ∷ 1 ∷ 1 ∷ 1 ∷ y = ap (λ bits. bits ++ x) (sym (row_3 n b' a)) ∙ e in cc)
          | inr b'' ↦ (let other : 1 ∷ 1 ∷ 1 ∷ 0 ∷ (bits_of 12 (n - 584) ++ x) ≡ 1 ∷ 1 ∷ 1 ∷ 1 ∷ y = ap (λ bits. bits ++ x) (sym (row_4 n b'')) ∙ e in cc)
        ]
      ]
    ]

-- what stands at the front of bits is one of three, and never two of them
pub one_number : (bits : List ℕ) (m n : ℕ) (x y : List ℕ) → BeginsWithNumber bits m x → BeginsWithNumber bits n y → (m ≡ n) × (x ≡ y)
one_number bits m n x y a b = same_number m n x y a.encodable b.encodable (sym a.encoded ∙ b.encoded)

pub whole_or_cut : (bits : List ℕ) (n : ℕ) (x : List ℕ) → BeginsWithNumber bits n x → EndsWithinNumber bits → ⊥
whole_or_cut bits n x whole cut =
    let joined : number_bits n ++ (x ++ cut.more) ≡ number_bits cut.number ++ [] =
    sym (append_assoc (number_bits n) x cut.more) ∙ ap (λ front. front ++ cut.more) (sym whole.encoded) ∙ sym cut.encoded ∙ sym (append-nil (number_bits cut.number)) in
    let none : x ++ cut.more ≡ [] = (same_number n cut.number (x ++ cut.more) [] whole.encodable cut.encodable joined).1 in
    omega (arith, cut.wanted, length-append x cut.more, ap length none)

pub whole_or_none : (bits : List ℕ) (n : ℕ) (x : List ℕ) → BeginsWithNumber bits n x → BeginsWithNoNumber bits → ⊥
whole_or_none bits n x whole none = no_fifteen n x none.rest whole.encodable (sym whole.encoded ∙ none.fifteen)

pub cut_or_none : (bits : List ℕ) → EndsWithinNumber bits → BeginsWithNoNumber bits → ⊥
cut_or_none bits cut none =
    no_fifteen cut.number [] (none.rest ++ cut.more) cut.encodable (append-nil (number_bits cut.number) ∙ cut.encoded ∙ ap (λ front. front ++ cut.more) none.fifteen)
