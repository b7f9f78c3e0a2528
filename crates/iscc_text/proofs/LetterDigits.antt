-- The letters of a text and their five bits.
use Rattle.std.proofs.Common.{◌≡◌, ℕ, ◌<◌, List, [], ◌∷◌, ◌++◌, map, true, refl, ◌∙◌, ap, ap₂, append-nil, arith, inl, inr, subst}
use Rattle.std.specs.Prelude.{All, Bool, ◌==◌, ◌&&◌, ◌||◌, not, nat_lt, nat_le, filter}
use Rattle.std.specs.List.{AllPass, flat_map}
use Rattle.std.proofs.lemmas.Bool.{and_parts, or_cases, eqb-true, leb-true, ltb-true, ne_eqb, eq-eqb, cases_eq}
use Rattle.std.proofs.lemmas.List.Elements.{All-head, All-tail, All-nil, All-cons, filter-append}
use Rattle.std.proofs.lemmas.List.{map-append}
use Rattle.std.proofs.lemmas.List.Concat.{flat_map-append}
use Rattle.iscc_header.specs.Bits.{bits_of}
use Rattle.iscc_header.proofs.EachBelow.{each_below}
use Rattle.iscc_text.specs.Base32.{letter}
use Rattle.iscc_text.specs.inner.Letters.{digit}
use Rattle.iscc_text.specs.Texts.{is_letter, is_allowed, is_no_hyphen, capital, capitals}
use Rattle.iscc_text.specs.inner.Gathering.{letter_bits}

-- a letter is below 91
letter_low : (c : ℕ) → is_letter c ≡ true → c < 91
unfolding is_letter
letter_low c h =
    elim (or_cases (nat_le 65 c && nat_le c 90) (nat_le 50 c && nat_le c 55) h) [
      | inl high ↦ omega (arith, leb-true c 90 (and_parts (nat_le 65 c) (nat_le c 90) high).1)
      | inr low ↦ omega (arith, leb-true c 55 (and_parts (nat_le 50 c) (nat_le c 55) low).1)
    ]

-- a letter is that of its digit
unfoldable fits_letter : ℕ → Bool
fits_letter c = not (is_letter c) || (nat_lt (digit c) 32 && (letter (digit c) == c))

fits : (c : ℕ) → c < 91 → fits_letter c ≡ true
unfolding fits_letter is_letter
fits c h = each_below 91 fits_letter refl c h

pub letter_digit : (c : ℕ) → is_letter c ≡ true → (digit c < 32) × (letter (digit c) ≡ c)
unfolding fits_letter
letter_digit c h =
    let test : (nat_lt (digit c) 32 && (letter (digit c) == c)) ≡ true =
    subst (λ b. (not b || (nat_lt (digit c) 32 && (letter (digit c) == c))) ≡ true) h (fits c (letter_low c h)) in
    let parts = and_parts (nat_lt (digit c) 32) (letter (digit c) == c) test in
    (ltb-true (digit c) 32 parts.0, eqb-true (letter (digit c)) c parts.1)

-- a byte that may stand there and is no hyphen is a letter
pub allowed_letter : (b : ℕ) → is_allowed b ≡ true → (b ≡ 45 → ⊥) → is_letter (capital b) ≡ true
unfolding is_allowed
allowed_letter b h other =
    elim (or_cases (b == 45) (is_letter (capital b)) h) [
      | inl hyphen ↦ absurd (other (eqb-true b 45 hyphen))
      | inr good ↦ good
    ]

-- the digits of letters are below 32
abbrev pub AreDigits : List ℕ → Type 0
AreDigits ds = All (λ d. d < 32) ds

capitals_letters : (m : List ℕ) → AllPass is_allowed m → AllPass is_letter (capitals m)
unfolding capitals
capitals_letters [] h = All-nil (λ b. is_letter b ≡ true)
capitals_letters (b ∷ m) h =
    let rest = capitals_letters m (All-tail (λ b. is_allowed b ≡ true) b m h) in
    elim (cases_eq b 45) [
      | inl hyphen ↦ rw (eq-eqb b 45 hyphen) rest
      | inr other ↦ rw (ne_eqb b 45 other) (All-cons (λ b. is_letter b ≡ true) (capital b) (capitals m) (allowed_letter b (All-head (λ b. is_allowed b ≡ true) b m h) other) rest)
    ]

digits_small : (cs : List ℕ) → AllPass is_letter cs → AreDigits (map digit cs)
digits_small [] h = All-nil (λ d. d < 32)
digits_small (c ∷ cs) h =
    All-cons (λ d. d < 32) (digit c) (map digit cs) (letter_digit c (All-head (λ b. is_letter b ≡ true) c cs h)).0 (digits_small cs (All-tail (λ b. is_letter b ≡ true) c cs h))

digits_letters : (cs : List ℕ) → AllPass is_letter cs → map letter (map digit cs) ≡ cs
digits_letters [] h = refl
digits_letters (c ∷ cs) h =
    ap₂ (λ x xs. x ∷ xs) (letter_digit c (All-head (λ b. is_letter b ≡ true) c cs h)).1 (digits_letters cs (All-tail (λ b. is_letter b ≡ true) c cs h))

pub text_digits : (m : List ℕ) → AllPass is_allowed m → AreDigits (map digit (capitals m)) × (map letter (map digit (capitals m)) ≡ capitals m)
text_digits m h = (digits_small (capitals m) (capitals_letters m h), digits_letters (capitals m) (capitals_letters m h))

-- one byte more
pub letter_bits-push : (m : List ℕ) (b : ℕ) → letter_bits (m ++ b ∷ []) ≡ letter_bits m ++ letter_bits (b ∷ [])
unfolding letter_bits capitals
letter_bits-push m b =
    ap (λ ls. flat_map (bits_of 5) (map digit (map capital ls))) (filter-append is_no_hyphen m (b ∷ []))
    ∙ ap (λ ls. flat_map (bits_of 5) (map digit ls)) (map-append capital (filter is_no_hyphen m) (filter is_no_hyphen (b ∷ [])))
    ∙ ap (flat_map (bits_of 5)) (map-append digit (map capital (filter is_no_hyphen m)) (map capital (filter is_no_hyphen (b ∷ []))))
    ∙ flat_map-append (bits_of 5) (map digit (map capital (filter is_no_hyphen m))) (map digit (map capital (filter is_no_hyphen (b ∷ []))))

pub hyphen_bits : letter_bits (45 ∷ []) ≡ []
unfolding letter_bits capitals
hyphen_bits = refl

pub one_letter_bits : (b : ℕ) → (b ≡ 45 → ⊥) → letter_bits (b ∷ []) ≡ bits_of 5 (digit (capital b))
unfolding letter_bits capitals
one_letter_bits b other = rw (ne_eqb b 45 other) (append-nil (bits_of 5 (digit (capital b))))
