-- The bits of numbers and of bytes: lengths, joins, and numbers with the same bits.
use Rattle.std.proofs.Common.{◌≡◌, ℕ, zero, suc, ◌+◌, ◌-◌, ◌*◌, ◌/◌, ◌%◌, ◌^◌, ◌<◌, ◌≤◌, List, [], ◌∷◌, ◌++◌, refl, sym, ◌∙◌, ap, ap₂, length, length-append, drop, take, subst, arith, lit<}
use Rattle.std.proofs.Math.Nat.{mod-lt, mod-one, mod-eq_of_lt, mul_comm, pow-suc}
use Rattle.std.proofs.Math.Arith.{mod-mul}
use Rattle.std.proofs.lemmas.Nat.{pow_pos, shr_split, shl_below}
use Rattle.std.proofs.lemmas.Nat.Bits.{bit_at_cat_high, bit_at_cat_low}
use Rattle.std.proofs.lemmas.List.{drop_at, drop-drop, drop_all, take_at}
use Rattle.std.proofs.lemmas.List.Concat.{flat_map-append}
use Rattle.std.specs.Int.{bit_at}
use Rattle.std.specs.Prelude.{All}
use Rattle.std.proofs.lemmas.List.Elements.{All-head, All-tail}
use Rattle.iscc_header.specs.Bits.{bits_of, byte_bits, IsByte}

pub length-bits_of : (w n : ℕ) → length (bits_of w n) ≡ w
unfolding bits_of
length-bits_of zero n = refl
length-bits_of (suc w) n = ap suc (length-bits_of w n)

-- the low bits of a sum
pub bits_of_low : (w k x y : ℕ) → w ≤ k → bits_of w (x * 2 ^ k + y) ≡ bits_of w y
unfolding bits_of
bits_of_low zero k x y h = refl
bits_of_low (suc w) k x y h = ap₂ (λ b bs. b ∷ bs) (bit_at_cat_low x k y w (omega arith)) (bits_of_low w k x y (omega arith))

pub bits_of-append : (a b t x y : ℕ) → y < 2 ^ b → t ≡ a + b → bits_of t (x * 2 ^ b + y) ≡ bits_of a x ++ bits_of b y
unfolding bits_of
bits_of-append zero b t x y low e = ap (λ k. bits_of k (x * 2 ^ b + y)) (let same : t ≡ b = omega arith in same) ∙ bits_of_low b b x y (omega arith)
bits_of-append (suc a) b t x y low e =
    let longer : t ≡ suc (a + b) = omega arith in
    let top : bit_at (x * 2 ^ b + y) (a + b) ≡ bit_at x a = bit_at_cat_high x b y (a + b) low (omega arith) ∙ ap (bit_at x) (let same : a + b - b ≡ a = omega arith in same) in
    ap (λ k. bits_of k (x * 2 ^ b + y)) longer
    ∙ ap₂ (λ b bs. b ∷ bs) top (bits_of-append a b (a + b) x y low refl)

-- only the low bits count
pub bits_of-mod : (w n : ℕ) → bits_of w (n % 2 ^ w) ≡ bits_of w n
bits_of-mod w n = sym (bits_of_low w w (n / 2 ^ w) (n % 2 ^ w) (omega arith)) ∙ ap (bits_of w) (shr_split n w)

-- the high bits, and the low ones
pub bits_of_split : (a b t n : ℕ) → t ≡ a + b → bits_of t n ≡ bits_of a (n / 2 ^ b) ++ bits_of b n
bits_of_split a b t n e =
    ap (bits_of t) (sym (shr_split n b))
    ∙ bits_of-append a b t (n / 2 ^ b) (n % 2 ^ b) (mod-lt n (pow_pos b)) e
    ∙ ap (λ bs. bits_of a (n / 2 ^ b) ++ bs) (bits_of-mod b n)

-- the low bits of a number: the highest of them, and the others
pub mod_of_bits : (width n : ℕ) → n % 2 ^ suc width ≡ bit_at n width * 2 ^ width + n % 2 ^ width
mod_of_bits width n = ap (λ m. n % m) (pow-suc 2 width ∙ mul_comm (2 ^ width) 2) ∙ mod-mul n (lit< tt) (pow_pos width)

-- numbers with the same bits
same_low : (w m n : ℕ) → bits_of w m ≡ bits_of w n → m % 2 ^ w ≡ n % 2 ^ w
unfolding bits_of
same_low zero m n e = mod-one m ∙ sym (mod-one n)
same_low (suc w) m n e =
    let top : bit_at m w ≡ bit_at n w = cc in
    let low : bits_of w m ≡ bits_of w n = cc in
    mod_of_bits w m ∙ ap₂ (λ a b. a * 2 ^ w + b) top (same_low w m n low) ∙ sym (mod_of_bits w n)

pub same_from_bits_of : (w m n : ℕ) → m < 2 ^ w → n < 2 ^ w → bits_of w m ≡ bits_of w n → m ≡ n
same_from_bits_of w m n h k e = sym (mod-eq_of_lt h) ∙ same_low w m n e ∙ mod-eq_of_lt k

-- lists of the same length at the front of one list are the same
pub same_fronts : (a b x y : List ℕ) → length a ≡ length b → a ++ x ≡ b ++ y → (a ≡ b) × (x ≡ y)
same_fronts a b x y len e =
    let front : a ≡ b = sym (take_at a x (length a) refl) ∙ ap (take (length a)) e ∙ take_at b y (length a) (sym len) in
    (front, sym (drop_at a x (length a) refl) ∙ ap (drop (length a)) e ∙ drop_at b y (length a) (sym len))

-- numbers whose bits begin one list
pub same_numbers : (w m n : ℕ) (x y : List ℕ) → m < 2 ^ w → n < 2 ^ w → bits_of w m ++ x ≡ bits_of w n ++ y → (m ≡ n) × (x ≡ y)
same_numbers w m n x y h k e =
    let parts = same_fronts (bits_of w m) (bits_of w n) x y (length-bits_of w m ∙ sym (length-bits_of w n)) e in
    (same_from_bits_of w m n h k parts.0, parts.1)

pub length-byte_bits : (bytes : List ℕ) → length (byte_bits bytes) ≡ 8 * length bytes
unfolding byte_bits
length-byte_bits [] = refl
length-byte_bits (b ∷ bytes) = length-append (bits_of 8 b) (byte_bits bytes) ∙ omega (arith, length-bits_of 8 b, length-byte_bits bytes)

pub byte_bits-append : (xs ys : List ℕ) → byte_bits (xs ++ ys) ≡ byte_bits xs ++ byte_bits ys
unfolding byte_bits
byte_bits-append xs ys = flat_map-append (bits_of 8) xs ys

-- from a whole byte on
pub drop-byte_bits : (i : ℕ) (bytes : List ℕ) → drop (8 * i) (byte_bits bytes) ≡ byte_bits (drop i bytes)
unfolding byte_bits
drop-byte_bits zero bytes = refl
drop-byte_bits (suc i) [] = drop_all (8 * suc i) [] (omega arith)
drop-byte_bits (suc i) (b ∷ bytes) =
    let more : 8 * suc i ≡ 8 + 8 * i = omega arith in
    ap (λ n. drop n (bits_of 8 b ++ byte_bits bytes)) more
    ∙ sym (drop-drop (8 * i) 8 (bits_of 8 b ++ byte_bits bytes))
    ∙ ap (drop (8 * i)) (drop_at (bits_of 8 b) (byte_bits bytes) 8 (length-bits_of 8 b))
    ∙ drop-byte_bits i bytes

-- the number that bytes stand for, the first of them the highest
unfoldable bytes_number : List ℕ → ℕ
bytes_number [] = 0
bytes_number (b ∷ bytes) = b * 2 ^ (8 * length bytes) + bytes_number bytes % 2 ^ (8 * length bytes)

byte_bits-number : (bytes : List ℕ) → byte_bits bytes ≡ bits_of (8 * length bytes) (bytes_number bytes)
unfolding byte_bits bytes_number bits_of
byte_bits-number [] = refl
byte_bits-number (b ∷ bytes) =
    let w = 8 * length bytes in
    ap (λ low. bits_of 8 b ++ low) (byte_bits-number bytes ∙ sym (bits_of-mod w (bytes_number bytes)))
    ∙ sym (bits_of-append 8 w (8 * suc (length bytes)) b (bytes_number bytes % 2 ^ w) (mod-lt (bytes_number bytes) (pow_pos w)) (omega arith))

-- the last bits of bytes are the bits of some number
pub last_bits : (bytes : List ℕ) (k : ℕ) → k ≤ 8 * length bytes → (n : ℕ) × (drop k (byte_bits bytes) ≡ bits_of (8 * length bytes - k) n)
last_bits bytes k h =
    let n = bytes_number bytes in
    let w = 8 * length bytes - k in
    (n, ap (drop k) (byte_bits-number bytes ∙ bits_of_split k w (8 * length bytes) n (omega arith)) ∙ drop_at (bits_of k (n / 2 ^ w)) (bits_of w n) k (length-bits_of k (n / 2 ^ w)))

-- bits that are filled up to a width are those of some number
pub filled : (c m v : ℕ) → m < c → (u : ℕ) × (u < 2 ^ c) × (bits_of c u ≡ bits_of m v ++ bits_of (c - m) 0)
filled c m v h =
    let w = c - m in
    let high = v % 2 ^ m in
    let whole : c ≡ m + w = omega arith in
    let below : high * 2 ^ w < 2 ^ (m + w) = shl_below high m w (mod-lt v (pow_pos m)) in (
      high * 2 ^ w,
      subst (λ t. high * 2 ^ w < 2 ^ t) (sym whole) below,
      ap (bits_of c) (let none : high * 2 ^ w ≡ high * 2 ^ w + 0 = omega arith in none)
          ∙ bits_of-append m w c high 0 (pow_pos w) whole
          ∙ ap (λ bits. bits ++ bits_of w 0) (bits_of-mod m v),
    )

-- bytes with the same bits
pub same_bytes : (a b : List ℕ) → All IsByte a → All IsByte b → byte_bits a ≡ byte_bits b → a ≡ b
unfolding byte_bits
same_bytes [] [] h k e = refl
same_bytes [] (y ∷ b) h k e = absurd (omega (arith, ap length e, length-append (bits_of 8 y) (byte_bits b), length-bits_of 8 y))
same_bytes (x ∷ a) [] h k e = absurd (omega (arith, ap length e, length-append (bits_of 8 x) (byte_bits a), length-bits_of 8 x))
same_bytes (x ∷ a) (y ∷ b) h k e =
    let first = same_numbers 8 x y (byte_bits a) (byte_bits b) (All-head IsByte x a h) (All-head IsByte y b k) e in
    ap₂ (λ n ns. n ∷ ns) first.0 (same_bytes a b (All-tail IsByte x a h) (All-tail IsByte y b k) first.1)
