-- Headers of four small numbers have two bytes.
use Rattle.std.proofs.Common.{◌≡◌, ℕ, ◌*◌, ◌%◌, ◌<◌, List, [], ◌++◌, length, length-append, sym, ◌∙◌, ap, arith}
use Rattle.iscc_header.specs.Headers.{number_bits, padded, Numbers, EncodesHeader}
use Rattle.iscc_header.proofs.BitLists.{length-byte_bits}
use Rattle.iscc_header.proofs.NumberEncodings.{length-number_bits}
use Rattle.iscc_header.proofs.HeaderReading.{padded_even}

-- four numbers below 8
pub record IsShort (header : Numbers) : Type 0 where
  pub main : header.main < 8
  pub sub : header.sub < 8
  pub version : header.version < 8
  pub len : header.len < 8

length-small_number : (n : ℕ) → n < 8 → length (number_bits n) ≡ 4
length-small_number n h =
    let bits = length-number_bits n (omega arith) in
    omega (arith, bits.1, bits.4 h)

pub length-short_header : (h : Numbers) (front : List ℕ) → EncodesHeader h front → IsShort h → length front ≡ 2
length-short_header h front s small =
    let none : List ℕ = [] in
    let len = number_bits h.len ++ none in
    let version = number_bits h.version ++ len in
    let sub = number_bits h.sub ++ version in
    let bits = number_bits h.main ++ sub in
    let sixteen : length bits ≡ 16 =
    omega (
      arith,
      length-append (number_bits h.main) sub,
      length-append (number_bits h.sub) version,
      length-append (number_bits h.version) len,
      length-append (number_bits h.len) none,
      length-small_number h.main small.main,
      length-small_number h.sub small.sub,
      length-small_number h.version small.version,
      length-small_number h.len small.len,
    ) in
    let whole : 8 * length front ≡ length (padded bits) = sym (length-byte_bits front) ∙ ap length s.encoded in
    omega (arith, whole, ap length (padded_even bits (ap (λ n. n % 8) sixteen)), sixteen)
