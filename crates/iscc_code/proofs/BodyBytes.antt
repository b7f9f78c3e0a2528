-- The bytes of a body as a number.
use Rattle.std.proofs.Common.{◌≡◌, ℕ, zero, suc, refl, ◌+◌, ◌*◌, ◌/◌, ◌^◌, ◌<◌, ◌≤◌, List, ◌++◌, length, get_or, take, drop, sym, ◌∙◌, ap, ap₂, arith, inl, inr}
use Rattle.std.specs.Prelude.{All}
use Rattle.std.specs.Int.{w64, byte_at, bytes_high_first, to_be_bytes}
use Rattle.std.proofs.lemmas.Nat.{pow-add, be_bytes_8}
use Rattle.std.proofs.lemmas.Bool.{cases_lt}
use Rattle.std.proofs.lemmas.List.Elements.{All-nil, All-cons, All-get_or, All-take}
use Rattle.std.proofs.Math.Nat.{pow-suc, div-one}
use Rattle.std.proofs.lemmas.List.{length-take-le, take-append-drop, take_at, get_or_past}
use Rattle.iscc_header.specs.Bits.{bits_of, byte_bits, IsByte}
use Rattle.iscc_header.proofs.BitLists.{bits_of-mod, bits_of_split, byte_bits-append, length-byte_bits}
use Rattle.iscc_code.specs.Units.{first_bits}

-- the first bytes' bits
pub take-byte_bits : (i : ℕ) (bytes : List ℕ) → i ≤ length bytes → take (8 * i) (byte_bits bytes) ≡ byte_bits (take i bytes)
take-byte_bits i bytes h =
    ap (take (8 * i)) (ap byte_bits (sym (take-append-drop i bytes)) ∙ byte_bits-append (take i bytes) (drop i bytes))
    ∙ take_at (byte_bits (take i bytes)) (byte_bits (drop i bytes)) (8 * i) (length-byte_bits (take i bytes) ∙ ap (λ n. 8 * n) (length-take-le i bytes h))

-- powers of 256
pow_256 : (k : ℕ) → 256 ^ k ≡ 2 ^ (8 * k)
pow_256 zero = refl
pow_256 (suc k) =
    pow-suc 256 k ∙ ap (λ p. p * 256) (pow_256 k) ∙ sym (pow-add 2 (8 * k) 8) ∙ ap (λ e. 2 ^ e) (let same : 8 * k + 8 ≡ 8 * suc k = omega arith in same)

-- a byte of a number has eight of its bits
bits_of-byte_at : (k n : ℕ) → bits_of 8 (byte_at k n) ≡ bits_of 8 (n / 2 ^ (8 * k))
bits_of-byte_at zero n = bits_of-mod 8 n ∙ ap (bits_of 8) (sym (div-one n))
bits_of-byte_at (suc k) n = bits_of-mod 8 (n / 256 ^ suc k) ∙ ap (λ p. bits_of 8 (n / p)) (pow_256 (suc k))

-- the bytes of a number have its bits
pub byte_bits-high_first : (k n : ℕ) → byte_bits (bytes_high_first k n) ≡ bits_of (8 * k) n
unfolding byte_bits bits_of
byte_bits-high_first zero n = refl
byte_bits-high_first (suc k) n =
    ap₂ (λ front last. front ++ last) (bits_of-byte_at k n) (byte_bits-high_first k n)
    ∙ sym (bits_of_split 8 (8 * k) (8 * suc k) n (omega arith))

byte_at-small : (k n : ℕ) → byte_at k n < 256
byte_at-small zero n = omega arith
byte_at-small (suc k) n = omega arith

-- the bytes of a number
pub high_first-bytes : (k n : ℕ) → All IsByte (bytes_high_first k n)
high_first-bytes zero n = All-nil IsByte
high_first-bytes (suc k) n = All-cons IsByte (byte_at k n) (bytes_high_first k n) (byte_at-small k n) (high_first-bytes k n)

-- a byte of bytes, or the 0 behind them
below_256 : (i : ℕ) (bytes : List ℕ) → All IsByte bytes → get_or bytes i 0 < 256
below_256 i bytes range =
    elim (cases_lt i (length bytes)) [
      | inl within ↦ All-get_or IsByte bytes i 0 within range
      | inr past ↦ (let none : get_or bytes i 0 ≡ 0 = get_or_past bytes i 0 past in omega arith)
    ]

-- the number of the first eight bytes, as bytes
first_bits-bytes : (bytes : List ℕ) → 8 ≤ length bytes → All IsByte bytes → to_be_bytes w64 (first_bits bytes) ≡ take 8 bytes
unfolding first_bits
first_bits-bytes bytes long range =
    let front : All IsByte (take 8 bytes) = All-take IsByte 8 bytes range in
    be_bytes_8 (take 8 bytes) (first_bits bytes) (length-take-le 8 bytes long) (λ i. below_256 i (take 8 bytes) front) refl

-- and as bits
pub first_bits-bits : (bytes : List ℕ) → 8 ≤ length bytes → All IsByte bytes → bits_of 64 (first_bits bytes) ≡ take 64 (byte_bits bytes)
first_bits-bits bytes long range =
    sym (byte_bits-high_first 8 (first_bits bytes))
    ∙ ap byte_bits (first_bits-bytes bytes long range)
    ∙ sym (take-byte_bits 8 bytes long)

-- the bytes of that number, and the rest
pub first_bits-rest : (bytes rest : List ℕ) (n : ℕ) → 8 ≤ length bytes → All IsByte bytes → n ≡ first_bits bytes → rest ≡ drop 8 bytes → bytes ≡ to_be_bytes w64 n ++ rest
first_bits-rest bytes rest n long range is behind =
    sym (take-append-drop 8 bytes)
    ∙ ap₂ (λ front last. front ++ last) (sym (ap (to_be_bytes w64) is ∙ first_bits-bytes bytes long range)) (sym behind)
