-- The nibble at a place of some bytes, and the bits behind it.
use Rattle.std.proofs.Common.{◌≡◌, ℕ, ◌+◌, ◌-◌, ◌*◌, ◌/◌, ◌%◌, ◌<◌, List, ◌++◌, refl, sym, ◌∙◌, ap, append_assoc, length, drop, get_or, arith, length-drop}
use Rattle.std.proofs.lemmas.List.{drop_at, drop-drop, drop_more}
use Rattle.iscc_header.specs.Bits.{bits_of, byte_bits}
use Rattle.iscc_header.specs.Headers.{bits_from}
use Rattle.iscc_header.proofs.BitLists.{length-bits_of, bits_of_split, bits_of-mod, drop-byte_bits, length-byte_bits}

-- a byte, by its halves
byte_halves : (b : ℕ) → bits_of 8 b ≡ bits_of 4 (b / 16) ++ bits_of 4 (b % 16)
byte_halves b = bits_of_split 4 4 8 b refl ∙ ap (λ low. bits_of 4 (b / 16) ++ low) (sym (bits_of-mod 4 b))

-- the bits from a byte on
bits_at_byte : (bytes : List ℕ) (i : ℕ) → i < length bytes
    → drop (8 * i) (byte_bits bytes) ≡ bits_of 4 (get_or bytes i 0 / 16) ++ (bits_of 4 (get_or bytes i 0 % 16) ++ byte_bits (drop (i + 1) bytes))
unfolding byte_bits
bits_at_byte bytes i h =
    let b = get_or bytes i 0 in
    drop-byte_bits i bytes
    ∙ ap byte_bits (drop_more bytes i 0 h)
    ∙ ap (λ front. front ++ byte_bits (drop (i + 1) bytes)) (byte_halves b)
    ∙ append_assoc (bits_of 4 (b / 16)) (bits_of 4 (b % 16)) (byte_bits (drop (i + 1) bytes))

-- after the high half
bits_at_half : (bytes : List ℕ) (i : ℕ) → i < length bytes
    → drop (8 * i + 4) (byte_bits bytes) ≡ bits_of 4 (get_or bytes i 0 % 16) ++ byte_bits (drop (i + 1) bytes)
bits_at_half bytes i h =
    let b = get_or bytes i 0 in
    sym (drop-drop 4 (8 * i) (byte_bits bytes))
    ∙ ap (drop 4) (bits_at_byte bytes i h)
    ∙ drop_at (bits_of 4 (b / 16)) (bits_of 4 (b % 16) ++ byte_bits (drop (i + 1) bytes)) 4 (length-bits_of 4 (b / 16))

pub high_nibble : (bytes : List ℕ) (at : ℕ) → at < 2 * length bytes → at % 2 ≡ 0
    → bits_from bytes at ≡ bits_of 4 (get_or bytes (at / 2) 0 / 16) ++ bits_from bytes (at + 1)
high_nibble bytes at h even =
    let i = at / 2 in
    let within : i < length bytes = omega arith in
    let from : 4 * at ≡ 8 * i = omega arith in
    let next : 4 * (at + 1) ≡ 8 * i + 4 = omega arith in
    ap (λ n. drop n (byte_bits bytes)) from
    ∙ bits_at_byte bytes i within
    ∙ ap (λ rest. bits_of 4 (get_or bytes i 0 / 16) ++ rest) (sym (bits_at_half bytes i within) ∙ ap (λ n. drop n (byte_bits bytes)) (sym next))

pub low_nibble : (bytes : List ℕ) (at : ℕ) → at < 2 * length bytes → at % 2 ≡ 1
    → bits_from bytes at ≡ bits_of 4 (get_or bytes (at / 2) 0 % 16) ++ bits_from bytes (at + 1)
low_nibble bytes at h odd =
    let i = at / 2 in
    let within : i < length bytes = omega arith in
    let from : 4 * at ≡ 8 * i + 4 = omega arith in
    let next : 8 * (i + 1) ≡ 4 * (at + 1) = omega arith in
    ap (λ n. drop n (byte_bits bytes)) from
    ∙ bits_at_half bytes i within
    ∙ ap (λ rest. bits_of 4 (get_or bytes i 0 % 16) ++ rest) (sym (drop-byte_bits (i + 1) bytes) ∙ ap (λ n. drop n (byte_bits bytes)) next)

pub length-bits_from : (bytes : List ℕ) (at : ℕ) → length (bits_from bytes at) ≡ 8 * length bytes - 4 * at
length-bits_from bytes at = length-drop (4 * at) (byte_bits bytes) ∙ ap (λ n. n - 4 * at) (length-byte_bits bytes)
