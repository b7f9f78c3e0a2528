-- Bits in groups of five, the last one filled with zeros, and their letters.
use Rattle.std.proofs.Common.{◌≡◌, ℕ, zero, suc, ◌+◌, ◌*◌, ◌^◌, ◌<◌, List, [], ◌∷◌, ◌++◌, length, length-append, map, refl, sym, ◌∙◌, ap, ap₂, append-nil, arith, subst, lit<}
use Rattle.std.specs.Prelude.{All}
use Rattle.std.specs.List.{flat_map}
use Rattle.std.specs.Int.{bit_at}
use Rattle.std.specs.Int.Digits.{number_from_digits}
use Rattle.std.proofs.lemmas.Nat.Bits.{bit_at-lt}
use Rattle.std.proofs.lemmas.Nat.{pow_pos}
use Rattle.std.proofs.lemmas.List.Elements.{All-head, All-tail, All-nil, All-cons}
use Rattle.iscc_header.specs.Bits.{bits_of, byte_bits, IsByte}
use Rattle.iscc_header.proofs.BitLists.{length-bits_of, length-byte_bits, same_fronts, same_numbers, same_from_bits_of, same_bytes}
use Rattle.iscc_text.specs.Base32.{letter, letters}
use Rattle.iscc_text.specs.inner.Letters.{digit}
use Rattle.iscc_text.proofs.LetterDigits.{AreDigits}

-- each is 0 or 1
abbrev AreBits : List ℕ → Type 0
AreBits [] = Unit {0}
AreBits (b ∷ bits) = (b < 2) × AreBits bits

AreBits-append : (a b : List ℕ) → AreBits a → AreBits b → AreBits (a ++ b)
AreBits-append [] b h k = k
AreBits-append (x ∷ a) b h k = (h.0, AreBits-append a b h.1 k)

AreBits-bits_of : (w n : ℕ) → AreBits (bits_of w n)
unfolding bits_of
AreBits-bits_of zero n = tt
AreBits-bits_of (suc w) n = (bit_at-lt n w, AreBits-bits_of w n)

AreBits-byte_bits : (bytes : List ℕ) → AreBits (byte_bits bytes)
unfolding byte_bits
AreBits-byte_bits [] = tt
AreBits-byte_bits (b ∷ bytes) = AreBits-append (bits_of 8 b) (byte_bits bytes) (AreBits-bits_of 8 b) (AreBits-byte_bits bytes)

-- five bits and their number
number_of_five : (a b c d e : ℕ) → ℕ
number_of_five a b c d e = number_from_digits 2 (a ∷ b ∷ c ∷ d ∷ e ∷ [])

five_bits : (a b c d e : ℕ) → a < 2 → b < 2 → c < 2 → d < 2 → e < 2
    → (number_of_five a b c d e < 32) × (bits_of 5 (number_of_five a b c d e) ≡ a ∷ b ∷ c ∷ d ∷ e ∷ [])
unfolding bits_of number_of_five
five_bits a b c d e ha hb hc hd he =
    let n : ℕ = ((((0 * 2 + a) * 2 + b) * 2 + c) * 2 + d) * 2 + e in
    let first : bit_at n 4 ≡ a = omega arith in
    let second : bit_at n 3 ≡ b = omega arith in
    let third : bit_at n 2 ≡ c = omega arith in
    let fourth : bit_at n 1 ≡ d = omega arith in
    let fifth : bit_at n 0 ≡ e = omega arith in (
      omega arith,
      ap₂ (λ x xs. x ∷ xs) first (ap₂ (λ x xs. x ∷ xs) second (ap₂ (λ x xs. x ∷ xs) third (ap₂ (λ x y. x ∷ y ∷ []) fourth fifth))),
    )

-- the groups of bits
record Groups (bits : List ℕ) : Type 0 where
  digits : List ℕ
  width : ℕ
  small : AreDigits digits
  narrow : width < 5
  filled : bits ++ bits_of width 0 ≡ flat_map (bits_of 5) digits
  same : letters bits ≡ map letter digits

-- the last group
last_group : (bits : List ℕ) (width a b c d e : ℕ) → a < 2 → b < 2 → c < 2 → d < 2 → e < 2 → width < 5
    → bits ++ bits_of width 0 ≡ a ∷ b ∷ c ∷ d ∷ e ∷ [] → letters bits ≡ letter (number_of_five a b c d e) ∷ [] → Groups bits
last_group bits width a b c d e ha hb hc hd he narrow filled same =
    let five = five_bits a b c d e ha hb hc hd he in
    record {
      digits = number_of_five a b c d e ∷ [];
      width = width;
      small = All-cons (λ d. d < 32) (number_of_five a b c d e) [] five.0 (All-nil (λ d. d < 32));
      narrow = narrow;
      filled = filled ∙ sym (append-nil (bits_of 5 (number_of_five a b c d e)) ∙ five.1);
      same = same;
    }

groups : (bits : List ℕ) → AreBits bits → Groups bits
unfolding bits_of number_of_five
groups [] h = record { digits = []; width = 0; small = All-nil (λ d. d < 32); narrow = lit< tt; filled = refl; same = refl }
groups (a ∷ []) h = last_group (a ∷ []) 4 a 0 0 0 0 h.0 (lit< tt) (lit< tt) (lit< tt) (lit< tt) (lit< tt) refl refl
groups (a ∷ b ∷ []) h = last_group (a ∷ b ∷ []) 3 a b 0 0 0 h.0 h.1.0 (lit< tt) (lit< tt) (lit< tt) (lit< tt) refl refl
groups (a ∷ b ∷ c ∷ []) h = last_group (a ∷ b ∷ c ∷ []) 2 a b c 0 0 h.0 h.1.0 h.1.1.0 (lit< tt) (lit< tt) (lit< tt) refl refl
groups (a ∷ b ∷ c ∷ d ∷ []) h = last_group (a ∷ b ∷ c ∷ d ∷ []) 1 a b c d 0 h.0 h.1.0 h.1.1.0 h.1.1.1.0 (lit< tt) (lit< tt) refl refl
groups (a ∷ b ∷ c ∷ d ∷ e ∷ bits) h =
    let rest = groups bits h.1.1.1.1.1 in
    let five = five_bits a b c d e h.0 h.1.0 h.1.1.0 h.1.1.1.0 h.1.1.1.1.0 in
    record {
      digits = number_of_five a b c d e ∷ rest.digits;
      width = rest.width;
      small = All-cons (λ d. d < 32) (number_of_five a b c d e) rest.digits five.0 rest.small;
      narrow = rest.narrow;
      filled = ap₂ (λ front tail. front ++ tail) (sym five.1) rest.filled;
      same = ap (λ ls. letter (number_of_five a b c d e) ∷ ls) rest.same;
    }

-- digits with the same bits, or the same letters
same_digits : (a b : List ℕ) → AreDigits a → AreDigits b → flat_map (bits_of 5) a ≡ flat_map (bits_of 5) b → a ≡ b
same_digits [] [] h k e = refl
same_digits [] (y ∷ b) h k e = absurd (omega (arith, ap length e, length-append (bits_of 5 y) (flat_map (bits_of 5) b), length-bits_of 5 y))
same_digits (x ∷ a) [] h k e = absurd (omega (arith, ap length e, length-append (bits_of 5 x) (flat_map (bits_of 5) a), length-bits_of 5 x))
same_digits (x ∷ a) (y ∷ b) h k e =
    let first = same_numbers 5 x y (flat_map (bits_of 5) a) (flat_map (bits_of 5) b) (All-head (λ d. d < 32) x a h) (All-head (λ d. d < 32) y b k) e in
    ap₂ (λ n ns. n ∷ ns) first.0 (same_digits a b (All-tail (λ d. d < 32) x a h) (All-tail (λ d. d < 32) y b k) first.1)

digit_letter : (d : ℕ) → d < 32 → digit (letter d) ≡ d
digit_letter d h = grind arith

digits_back : (ds : List ℕ) → AreDigits ds → map digit (map letter ds) ≡ ds
digits_back [] h = refl
digits_back (d ∷ ds) h = ap₂ (λ x xs. x ∷ xs) (digit_letter d (All-head (λ d. d < 32) d ds h)) (digits_back ds (All-tail (λ d. d < 32) d ds h))

same_letters : (a b : List ℕ) → AreDigits a → AreDigits b → map letter a ≡ map letter b → a ≡ b
same_letters a b h k e = sym (digits_back a h) ∙ ap (map digit) e ∙ digits_back b k

pub length-digits : (ds : List ℕ) → length (flat_map (bits_of 5) ds) ≡ 5 * length ds
length-digits [] = refl
length-digits (d ∷ ds) = length-append (bits_of 5 d) (flat_map (bits_of 5) ds) ∙ omega (arith, length-bits_of 5 d, length-digits ds)

length-filled : (bytes : List ℕ) (w p : ℕ) → length (byte_bits bytes ++ bits_of w p) ≡ 8 * length bytes + w
length-filled bytes w p = length-append (byte_bits bytes) (bits_of w p) ∙ omega (arith, length-byte_bits bytes, length-bits_of w p)

-- the letters of whole bytes
pub whole_letters : (ds bytes : List ℕ) (width : ℕ) → AreDigits ds → width < 5 → flat_map (bits_of 5) ds ≡ byte_bits bytes ++ bits_of width 0
    → letters (byte_bits bytes) ≡ map letter ds
whole_letters ds bytes width small narrow e =
    let g = groups (byte_bits bytes) (AreBits-byte_bits bytes) in
    let here : 8 * length bytes + width ≡ 5 * length ds = sym (length-filled bytes width 0) ∙ ap length (sym e) ∙ length-digits ds in
    let there : 8 * length bytes + g.width ≡ 5 * length g.digits = sym (length-filled bytes g.width 0) ∙ ap length g.filled ∙ length-digits g.digits in
    let width_is : width ≡ g.width = omega (arith, g.narrow) in
    let bits : flat_map (bits_of 5) ds ≡ flat_map (bits_of 5) g.digits = e ∙ ap (λ w. byte_bits bytes ++ bits_of w 0) width_is ∙ g.filled in
    g.same ∙ ap (map letter) (sym (same_digits ds g.digits small g.small bits))

-- bytes, and less than a byte behind them
same_ends : (a b : List ℕ) (v w p q : ℕ) → All IsByte a → All IsByte b → v < 8 → w < 8 → p < 2 ^ v → q < 2 ^ w
    → byte_bits a ++ bits_of v p ≡ byte_bits b ++ bits_of w q → (v ≡ w) × (p ≡ q) × (a ≡ b)
same_ends a b v w p q ra rb narrow_v narrow_w small_p small_q e =
    let lens : 8 * length a + v ≡ 8 * length b + w = sym (length-filled a v p) ∙ ap length e ∙ length-filled b w q in
    let width : v ≡ w = omega arith in
    let front = same_fronts (byte_bits a) (byte_bits b) (bits_of v p) (bits_of w q) (length-byte_bits a ∙ omega arith ∙ sym (length-byte_bits b)) e in
    let below : p < 2 ^ w = subst (λ t. p < 2 ^ t) width small_p in
    (width, same_from_bits_of w p q below small_q (ap (λ t. bits_of t p) (sym width) ∙ front.1), same_bytes a b ra rb front.0)

-- what letters tell of the bytes that they are the letters of
pub letters_tell : (ds bytes other : List ℕ) (width pending : ℕ) → AreDigits ds → All IsByte bytes → All IsByte other → width < 8 → pending < 2 ^ width
    → flat_map (bits_of 5) ds ≡ byte_bits bytes ++ bits_of width pending → map letter ds ≡ letters (byte_bits other)
    → (width < 5) × (pending ≡ 0) × (other ≡ bytes)
letters_tell ds bytes other width pending small range range_other narrow fits e same =
    let g = groups (byte_bits other) (AreBits-byte_bits other) in
    let digits : ds ≡ g.digits = same_letters ds g.digits small g.small (same ∙ g.same) in
    let ends = same_ends bytes other width g.width pending 0 range range_other narrow (omega (arith, g.narrow)) fits (pow_pos g.width)
    (sym e ∙ ap (flat_map (bits_of 5)) digits ∙ sym g.filled) in
    (omega (arith, ends.0, g.narrow), ends.1, sym ends.2)

-- letters are those of one list of bytes at most
pub one_list_of_bytes : (a b : List ℕ) → All IsByte a → All IsByte b → letters (byte_bits a) ≡ letters (byte_bits b) → a ≡ b
one_list_of_bytes a b ra rb e =
    let g = groups (byte_bits a) (AreBits-byte_bits a) in
    sym (letters_tell g.digits a b g.width 0 g.small ra rb (omega (arith, g.narrow)) (pow_pos g.width) (sym g.filled) (sym g.same ∙ e)).2

-- the letters of bytes are those of digits
pub byte_digits : (bytes : List ℕ) → (digits : List ℕ) × AreDigits digits × (letters (byte_bits bytes) ≡ map letter digits)
byte_digits bytes = (let g = groups (byte_bits bytes) (AreBits-byte_bits bytes) in (g.digits, g.small, g.same))
