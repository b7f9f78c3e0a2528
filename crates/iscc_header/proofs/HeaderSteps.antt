-- The steps of writing and reading a header.
use Rattle.std.proofs.Common.{◌≡◌, ℕ, ◌+◌, ◌-◌, ◌*◌, ◌/◌, ◌%◌, ◌^◌, ◌<◌, ◌≤◌, List, [], ◌∷◌, ◌++◌, refl, sym, ◌∙◌, ap, append_assoc, append-nil, length, length-append, take, drop, set, get_or, arith, inl, inr, subst}
use Rattle.std.specs.Prelude.{All, ◌⊎◌}
use Rattle.std.specs.List.{flat_map}
use Rattle.std.proofs.Math.Nat.{mul-le-mul_left, mul-le-mul_right}
use Rattle.std.proofs.lemmas.Nat.{pow-add, pow_pos, shl_whole}
use Rattle.std.proofs.lemmas.List.{take-append-drop, append_cancel_right, take_more, take_more_set, take_all}
use Rattle.std.proofs.lemmas.List.Concat.{flat_map-append}
use Rattle.std.proofs.lemmas.List.Elements.{All-push, All-take}
use Rattle.iscc_header.specs.Bits.{bits_of, byte_bits, IsByte}
use Rattle.iscc_header.specs.Headers.{number_bits, bits_from, IsEncodable, BeginsWithNumber, Numbers, IsHeader, EncodesHeader, BeginsWithNumbers}
use Rattle.iscc_header.proofs.BitLists.{length-byte_bits, byte_bits-append, drop-byte_bits, bits_of_split, bits_of-mod}
use Rattle.iscc_header.proofs.NibblePlaces.{length-bits_from}
use Rattle.iscc_header.proofs.HeaderReading.{in_order, padded_even, padded_odd}

-- a number's bits are put behind others
pub joined_fits : (v n c b : ℕ) → v < 2 ^ (4 * c) → n < 2 ^ (4 * b) → c ≤ 12 → b ≤ 4
    → (v * 2 ^ (4 * b) % 2 ^ 64 ≡ v * 2 ^ (4 * b)) × (v * 2 ^ (4 * b) + n < 2 ^ (4 * (c + b))) × (2 ^ (4 * (c + b)) ≤ 2 ^ 64)
joined_fits v n c b small low few most =
    let p = 2 ^ (4 * b) in
    let whole : 4 * (c + b) ≡ 4 * c + 4 * b = omega arith in
    let power : 2 ^ (4 * (c + b)) ≡ 2 ^ (4 * c) * p = ap (λ t. 2 ^ t) whole ∙ pow-add 2 (4 * c) (4 * b) in
    let left = 64 - (4 * c + 4 * b) in
    let all : 64 ≡ 4 * c + 4 * b + left = omega arith in
    let top : 2 ^ 64 ≡ 2 ^ (4 * c + 4 * b) * 2 ^ left = ap (λ t. 2 ^ t) all ∙ pow-add 2 (4 * c + 4 * b) left in
    let next : (v + 1) * p ≤ 2 ^ (4 * c) * p = mul-le-mul_right p (let step : v + 1 ≤ 2 ^ (4 * c) = omega arith in step) in
    let one : 2 ^ (4 * c + 4 * b) * 1 ≤ 2 ^ (4 * c + 4 * b) * 2 ^ left = mul-le-mul_left (2 ^ (4 * c + 4 * b)) (pow_pos left) in
    (shl_whole v (4 * c) (4 * b) 64 small (omega arith), omega (arith, power, next, low), omega (arith, ap (λ t. 2 ^ t) whole, top, one))

-- one byte is written
pub byte_written : (before after total : List ℕ) (value t w : ℕ) → t ≡ w + 8 → byte_bits before ++ bits_of t value ≡ total
    → after ≡ before ++ value / 2 ^ w % 256 ∷ [] → byte_bits after ++ bits_of w value ≡ total
unfolding byte_bits
byte_written before after total value t w e left written =
    let q = value / 2 ^ w in
    let last : byte_bits (q % 256 ∷ []) ≡ bits_of 8 q = append-nil (bits_of 8 (q % 256)) ∙ bits_of-mod 8 q in
    ap (λ bytes. byte_bits bytes ++ bits_of w value) written
    ∙ ap (λ bits. bits ++ bits_of w value) (byte_bits-append before (q % 256 ∷ []) ∙ ap (λ bits. byte_bits before ++ bits) last)
    ∙ append_assoc (byte_bits before) (bits_of 8 q) (bits_of w value)
    ∙ ap (λ bits. byte_bits before ++ bits) (sym (bits_of_split 8 w t value (omega arith)))
    ∙ left

-- one number more is read
pub number_read : (bits numbers rest next : List ℕ) (i n : ℕ) → i < length numbers → BeginsWithNumbers bits (take i numbers) rest → BeginsWithNumber rest n next
    → BeginsWithNumbers bits (take (i + 1) (set numbers i n)) next
number_read bits numbers rest next i n h before one =
    let longer : take (i + 1) (set numbers i n) ≡ take i numbers ++ n ∷ [] = take_more_set numbers i n h in
    record {
      encodable = subst (λ ns. All IsEncodable ns) (sym longer) (All-push IsEncodable (take i numbers) n before.encodable one.encodable);
      encoded =
          before.encoded
          ∙ ap (λ b. flat_map number_bits (take i numbers) ++ b) one.encoded
          ∙ sym (append_assoc (flat_map number_bits (take i numbers)) (number_bits n) next)
          ∙ ap (λ b. b ++ next)
          (ap (λ b. flat_map number_bits (take i numbers) ++ b) (sym (append-nil (number_bits n)))
          ∙ sym (flat_map-append number_bits (take i numbers) (n ∷ []))
          ∙ ap (flat_map number_bits) (sym longer));
    }

-- how many bits the numbers have
pub length_numbers : (bytes numbers : List ℕ) (at : ℕ) → at ≤ 2 * length bytes → BeginsWithNumbers (byte_bits bytes) numbers (bits_from bytes at)
    → length (flat_map number_bits numbers) ≡ 4 * at
length_numbers bytes numbers at h read =
    let bits = flat_map number_bits numbers in
    omega (arith, length-byte_bits bytes, ap length read.encoded, length-append bits (bits_from bytes at), length-bits_from bytes at)

-- where the header ends
abbrev pub EndsAt : List ℕ → ℕ → ℕ → Type 0
EndsAt bytes at end = (2 * end ≡ at) ⊎ ((2 * end ≡ at + 1) × (bits_from bytes at ≡ bits_of 4 0 ++ bits_from bytes (at + 1)))

pub header_read : (bytes : List ℕ) (h : Numbers) (at end : ℕ) → All IsByte bytes → IsHeader h → at ≤ 2 * length bytes
    → BeginsWithNumbers (byte_bits bytes) (in_order h) (bits_from bytes at) → EndsAt bytes at end → EncodesHeader h (take end bytes)
unfolding bits_of
header_read bytes h at end range is within read ends =
    let bits = flat_map number_bits (in_order h) in
    let len : length bits ≡ 4 * at = length_numbers bytes (in_order h) at within read in
    let after = byte_bits (drop end bytes) in
    let split : byte_bits (take end bytes) ++ after ≡ byte_bits bytes =
    sym (byte_bits-append (take end bytes) (drop end bytes)) ∙ ap byte_bits (take-append-drop end bytes) in
    elim ends [
      | inl even ↦
          (let place : 8 * end ≡ 4 * at = omega arith in
          let rest : bits_from bytes at ≡ after = ap (λ k. drop k (byte_bits bytes)) (sym place) ∙ drop-byte_bits end bytes in
          record {
            numbers = is;
            range = All-take IsByte end bytes range;
            encoded = append_cancel_right (byte_bits (take end bytes)) bits after (split ∙ read.encoded ∙ ap (λ b. bits ++ b) rest) ∙ sym (padded_even bits (omega arith));
          })
      | inr odd ↦
          (let place : 8 * end ≡ 4 * (at + 1) = omega (arith, odd.0) in
          let rest : bits_from bytes (at + 1) ≡ after = ap (λ k. drop k (byte_bits bytes)) (sym place) ∙ drop-byte_bits end bytes in
          let odd_bits : length bits % 8 ≡ 0 → ⊥ = λ e. omega (arith, odd.0) in
          record {
            numbers = is;
            range = All-take IsByte end bytes range;
            encoded =
                append_cancel_right (byte_bits (take end bytes)) (bits ++ bits_of 4 0) after
                (split ∙ read.encoded ∙ ap (λ b. bits ++ b) (odd.1 ∙ ap (λ b. bits_of 4 0 ++ b) rest) ∙ sym (append_assoc bits (bits_of 4 0) after))
                ∙ sym (padded_odd bits odd_bits);
          })
    ]

-- a list of four, by its places
pub four_places : (ns : List ℕ) → length ns ≡ 4 → ns ≡ get_or ns 0 0 ∷ get_or ns 1 0 ∷ get_or ns 2 0 ∷ get_or ns 3 0 ∷ []
four_places [] h = absurd (omega arith)
four_places (a ∷ []) h = absurd (omega arith)
four_places (a ∷ b ∷ []) h = absurd (omega arith)
four_places (a ∷ b ∷ c ∷ []) h = absurd (omega arith)
four_places (a ∷ b ∷ c ∷ d ∷ []) h = refl
four_places (a ∷ b ∷ c ∷ d ∷ e ∷ more) h = absurd (omega arith)

-- the four numbers that were read, as a header
abbrev pub header_at : List ℕ → Numbers
header_at ns = record { main = get_or ns 0 0; sub = get_or ns 1 0; version = get_or ns 2 0; len = get_or ns 3 0 }

pub all_read : (bits ns rest : List ℕ) (i : ℕ) → length ns ≡ 4 → 4 ≤ i → BeginsWithNumbers bits (take i ns) rest → BeginsWithNumbers bits (in_order (header_at ns)) rest
all_read bits ns rest i four done read = subst (λ list. BeginsWithNumbers bits list rest) (take_all i ns (omega arith) ∙ four_places ns four) read

pub IsHeader-read : (bits ns rest : List ℕ) → BeginsWithNumbers bits (in_order (header_at ns)) rest → IsHeader (header_at ns)
IsHeader-read bits ns rest read = record {
  main = read.encodable 0 0 (omega arith);
  sub = read.encodable 1 0 (omega arith);
  version = read.encodable 2 0 (omega arith);
  len = read.encodable 3 0 (omega arith);
}

-- the encodings of one number more
pub encodings_more : (ns : List ℕ) (i : ℕ) → i < length ns → flat_map number_bits (take (i + 1) ns) ≡ flat_map number_bits (take i ns) ++ number_bits (get_or ns i 0)
encodings_more ns i h =
    ap (flat_map number_bits) (take_more ns i 0 h)
    ∙ flat_map-append number_bits (take i ns) (get_or ns i 0 ∷ [])
    ∙ ap (λ b. flat_map number_bits (take i ns) ++ b) (append-nil (number_bits (get_or ns i 0)))
