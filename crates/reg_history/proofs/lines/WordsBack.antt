-- Words and lines of a text: what stands before a byte, and what stands behind it, is told by the whole.
use Rattle.std.proofs.Common.{◌≡◌, ℕ, zero, suc, ◌+◌, ◌/◌, ◌%◌, ◌^◌, ◌<◌, ◌≤◌, Bool, true, false, List, [], ◌∷◌, ◌++◌, get_or, length, take, drop, refl, sym, ◌∙◌, ap, ap₂, append_assoc, add-one, arith}
use Rattle.std.specs.Prelude.{◌==◌, if◌then◌else◌}
use Rattle.std.specs.Int.Digits.{number_from_digits}
use Rattle.std.specs.Fmt.{decimal, digits, digits_onto, digit_glyph}
use Rattle.std.proofs.Math.Seq.{take-suc}
use Rattle.std.proofs.lemmas.Bool.{true≢false}
use Rattle.std.proofs.lemmas.Fmt.{decimal_by_steps}
use Rattle.iscc_header.specs.declared.unit.Unit64.{Unit64}
use Rattle.iscc_text.specs.Base32.{letter, letters}
use Rattle.iscc_text.specs.UnitText.{unit_bits, unit_text}
pub use Rattle.reg_history.specs.inner.Bytes.{free, first}

-- ---- texts without a byte

other_byte : (c x : ℕ) → c < x → (x == c) ≡ false
other_byte c x h = grind arith

not_byte : (c x : ℕ) → (x ≡ c → ⊥) → (x == c) ≡ false
not_byte c x h = grind arith

same_byte : (c x : ℕ) → c ≡ x → (x == c) ≡ true
same_byte c x h = grind arith

pub free-cons : (c x : ℕ) (xs : List ℕ) → c < x → free c xs ≡ true → free c (x ∷ xs) ≡ true
free-cons c x xs h f = ap (λ t. if t then false else free c xs) (other_byte c x h) ∙ f

weaker : (t b d : Bool) → (if t then false else b) ≡ true → (b ≡ true → d ≡ true) → (if t then false else d) ≡ true
weaker true b d h k = h
weaker false b d h k = k h

pub behind : (t b : Bool) → (if t then false else b) ≡ true → b ≡ true
behind true b h = absurd (true≢false (sym h))
behind false b h = h

pub free-append : (c : ℕ) (xs ys : List ℕ) → free c xs ≡ true → free c ys ≡ true → free c (xs ++ ys) ≡ true
free-append c [] ys f g = g
free-append c (x ∷ xs) ys f g = weaker (x == c) (free c xs) (free c (xs ++ ys)) f (λ h. free-append c xs ys h g)

pub at_byte : (c x : ℕ) (b : Bool) → c ≡ x → (if x == c then false else b) ≡ true → ⊥
at_byte c x b e f = true≢false (sym (ap (λ t. if t then false else b) (sym (same_byte c x e)) ∙ f))

-- one byte more
pub taken_with : (c : ℕ) (xs : List ℕ) (i : ℕ) → i < length xs → get_or xs i 0 ≡ c → take (i + 1) xs ≡ take i xs ++ c ∷ []
taken_with c xs i within is = rw add-one (take-suc xs i 0 within) ∙ ap (λ x. take i xs ++ x ∷ []) is

-- one byte more that is another
pub free_more : (c : ℕ) (xs : List ℕ) (i : ℕ) → i < length xs → free c (take i xs) ≡ true → (get_or xs i 0 ≡ c → ⊥) → free c (take (i + 1) xs) ≡ true
free_more c xs i within before other =
    rw (add-one, take-suc xs i 0 within)
    (free-append c (take i xs) (get_or xs i 0 ∷ []) before (ap (λ t. if t then false else true) (not_byte c (get_or xs i 0) other)))

-- ---- the first place of a byte

-- the texts before the byte are the same, and those behind it
pub cut : (c : ℕ) (xs ys us vs : List ℕ) → free c xs ≡ true → free c ys ≡ true → xs ++ c ∷ us ≡ ys ++ c ∷ vs → (xs ≡ ys) × (us ≡ vs)
cut c [] [] us vs f g e = (refl, ap (drop 1) e)
cut c [] (y ∷ ys) us vs f g e = absurd (at_byte c y (free c ys) (ap first e) g)
cut c (x ∷ xs) [] us vs f g e = absurd (at_byte c x (free c xs) (sym (ap first e)) f)
cut c (x ∷ xs) (y ∷ ys) us vs f g e =
    let parts = cut c xs ys us vs (behind (x == c) (free c xs) f) (behind (y == c) (free c ys) g) (ap (drop 1) e) in
    (ap₂ (λ z zs. z ∷ zs) (ap first e) parts.0, parts.1)

-- the same for a piece with the byte at its end
pub cut_piece : (c : ℕ) (xs ys us vs : List ℕ) → free c xs ≡ true → free c ys ≡ true → (xs ++ c ∷ []) ++ us ≡ (ys ++ c ∷ []) ++ vs → (xs ≡ ys) × (us ≡ vs)
cut_piece c xs ys us vs f g e = cut c xs ys us vs f g (sym (append_assoc xs (c ∷ []) us) ∙ e ∙ append_assoc ys (c ∷ []) vs)

-- ---- numbers

glyph_high : (d : ℕ) → 48 ≤ digit_glyph false d
glyph_high d = grind arith

digits_free : (c k n : ℕ) (acc : List ℕ) → c < 48 → free c acc ≡ true → free c (digits_onto k 10 false n acc) ≡ true
digits_free c zero n acc h f = f
digits_free c (suc k) n acc h f =
    let glyph = digit_glyph false (n % 10) in
    let more : free c (glyph ∷ acc) ≡ true = free-cons c glyph acc (omega (arith, glyph_high (n % 10))) f in
    elim (n / 10 == 0) as (λ t. free c (if t then glyph ∷ acc else digits_onto k 10 false (n / 10) (glyph ∷ acc)) ≡ true) [
      | true ↦ more
      | false ↦ digits_free c k (n / 10) (glyph ∷ acc) h more
    ]

-- a byte below the digits is in no number
pub decimal_free : (c n : ℕ) → c < 48 → free c (decimal n) ≡ true
unfolding digits
decimal_free c n h = digits_free c 64 n [] h refl

-- a number begins with a digit
pub first_digit : (n : ℕ) (xs : List ℕ) → n < 2 ^ 64 → first (decimal n ++ xs) < 58
first_digit n xs h =
    decimal_by_steps
    (λ m ds. (ys : List ℕ) → first (ds ++ ys) < 58)
    (λ m low ys. omega arith)
    (λ m ds high before ys. rw (append_assoc ds ((48 + m % 10) ∷ []) ys) (before ((48 + m % 10) ∷ ys)))
    n h xs

-- ---- units

letter_high : (n : ℕ) → 50 ≤ letter n
letter_high n = grind arith

letter_then : (c n : ℕ) (xs : List ℕ) → c < 48 → free c xs ≡ true → free c (letter n ∷ xs) ≡ true
letter_then c n xs h f = free-cons c (letter n) xs (omega (arith, letter_high n)) f

letters_free : (c : ℕ) (bits : List ℕ) → c < 48 → free c (letters bits) ≡ true
letters_free c (v ∷ w ∷ x ∷ y ∷ z ∷ bits) h = letter_then c (number_from_digits 2 (v ∷ w ∷ x ∷ y ∷ z ∷ [])) (letters bits) h (letters_free c bits h)
letters_free c (v ∷ w ∷ x ∷ y ∷ []) h = letter_then c (number_from_digits 2 (v ∷ w ∷ x ∷ y ∷ 0 ∷ [])) [] h refl
letters_free c (v ∷ w ∷ x ∷ []) h = letter_then c (number_from_digits 2 (v ∷ w ∷ x ∷ 0 ∷ 0 ∷ [])) [] h refl
letters_free c (v ∷ w ∷ []) h = letter_then c (number_from_digits 2 (v ∷ w ∷ 0 ∷ 0 ∷ 0 ∷ [])) [] h refl
letters_free c (v ∷ []) h = letter_then c (number_from_digits 2 (v ∷ 0 ∷ 0 ∷ 0 ∷ 0 ∷ [])) [] h refl
letters_free c [] h = refl

-- a byte below the digits is in no unit's text
pub unit_free : (c : ℕ) (unit : Unit64) → c < 48 → free c (unit_text unit) ≡ true
unfolding unit_text
unit_free c unit h =
    let all = letters (unit_bits unit) in
    free-cons c 73 (83 ∷ 67 ∷ 67 ∷ 58 ∷ all) (omega arith)
    (free-cons c 83 (67 ∷ 67 ∷ 58 ∷ all) (omega arith)
    (free-cons c 67 (67 ∷ 58 ∷ all) (omega arith)
    (free-cons c 67 (58 ∷ all) (omega arith)
    (free-cons c 58 all (omega arith)
    (letters_free c (unit_bits unit) h)))))
