-- Bytes of which the first 43, or more, tell what the rest can't change.
use Rattle.std.proofs.Common.{◌≡◌, ℕ, ◌+◌, ◌*◌, ◌%◌, ◌<◌, ◌≤◌, List, [], ◌∷◌, ◌++◌, length, length-append, append-nil, take, drop, Some, refl, sym, ◌∙◌, ap, append_assoc, arith, inl, inr, subst}
use Rattle.std.specs.Prelude.{All}
use Rattle.std.specs.List.{flat_map}
use Rattle.std.proofs.lemmas.Bool.{cases_lt, cases_eq, cases_Bool}
use Rattle.std.proofs.lemmas.Option.{none-some, same_Some}
use Rattle.std.proofs.lemmas.List.{take_all, length-take-le, take-append-drop, take-append-le}
use Rattle.std.proofs.lemmas.List.Elements.{All-head, All-tail}
use Rattle.iscc_header.specs.Bits.{byte_bits}
use Rattle.iscc_header.specs.Headers.{number_bits, padded, IsEncodable, Numbers, EncodesHeader, BeginsWithNumbers}
use Rattle.iscc_header.specs.declared.header.HeaderFault.{HeaderFault}
use Rattle.iscc_header.specs.declared.header.HeaderFault.TheVariants as header_faults
use Rattle.iscc_header.proofs.BitLists.{length-byte_bits, byte_bits-append}
use Rattle.iscc_header.proofs.NumberEncodings.{length-number_bits}
use Rattle.iscc_header.proofs.HeaderReading.{in_order, IsHeader-all, padded_even, padded_odd}
use Rattle.iscc_code.specs.Codes.{EncodesIscc, header_of, body_of, is_sub, body_len, HasHeaderFault, HasBodyFault, HasFault, fault_of}
use Rattle.iscc_code.specs.declared.iscc.Iscc.{Iscc}
use Rattle.iscc_code.specs.declared.iscc.IsccFault.{IsccFault}
use Rattle.iscc_code.specs.declared.iscc.IsccFault.TheVariants as faults
use Rattle.iscc_code.proofs.CodeBodies.{code_sub-small}
use Rattle.iscc_code.proofs.CodeFaults.{IsIsccHeader, main_fault, version_fault, length_fault, sub_fault, long_fault, composite_sub, composite_body_len, unit_body_len, no_fault_in}
use Rattle.iscc_code.proofs.ShortHeaders.{length-short_header}

-- numbers have up to 16 bits each, by fours
length_numbers : (ns : List ℕ) → All IsEncodable ns → (k : ℕ) × (length (flat_map number_bits ns) ≡ 4 * k) × (k ≤ 4 * length ns)
length_numbers [] h = (0, refl, omega arith)
length_numbers (n ∷ ns) h =
    let one = length-number_bits n (All-head IsEncodable n ns h) in
    let rest = length_numbers ns (All-tail IsEncodable n ns h) in
    (one.0 + rest.0, omega (arith, length-append (number_bits n) (flat_map number_bits ns), one.1, rest.1), omega (arith, one.3, rest.2))

-- a header has up to 8 bytes
length_header : (h : Numbers) (front : List ℕ) → EncodesHeader h front → length front ≤ 8
length_header h front s =
    let bits = flat_map number_bits (in_order h) in
    let most = length_numbers (in_order h) (IsHeader-all h s.numbers) in
    let whole : 8 * length front ≡ length (padded bits) = sym (length-byte_bits front) ∙ ap length s.encoded in
    elim (cases_eq (length bits % 8) 0) [
      | inl even ↦ omega (arith, whole, ap length (padded_even bits even), most.1, most.2)
      | inr odd ↦ omega (arith, whole, ap length (padded_odd bits odd), length-append bits (0 ∷ 0 ∷ 0 ∷ 0 ∷ []), most.1, most.2)
    ]

-- the header of an ISCC-CODE has two bytes
code_header_bytes : (h : Numbers) (front : List ℕ) → EncodesHeader h front → IsIsccHeader h → h.main ≡ 5 → length front ≡ 2
code_header_bytes h front s is five =
    let small = code_sub-small h.len h.sub (sym (composite_sub h.main h.sub h.len five) ∙ is.sub) in
    length-short_header h front s (record { main = omega arith; sub = omega arith; version = omega (arith, is.version); len = omega (arith, is.len) })

-- what stands behind a header in more than 42 bytes is too long
too_long : (h : Numbers) (front x : List ℕ) → EncodesHeader h front → 43 ≤ length front + length x → IsIsccHeader h → body_len h.main h.len < length x
too_long h front x s long is =
    elim (cases_eq h.main 5) [
      | inl five ↦ omega (arith, long, code_header_bytes h front s is five, composite_body_len h.main h.len five, is.len)
      | inr other ↦
          (let unit : h.main ≤ 4 = omega (arith, is.main, other) in
          omega (arith, long, length_header h front s, unit_body_len h.main h.len unit, is.len))
    ]

-- the fault of a header and a body of more than 42 bytes, whatever stands behind them
abbrev LastingFault : Numbers → List ℕ → Type 0
LastingFault h x = (fault : IsccFault) × ((more : List ℕ) → fault_of h (x ++ more) ≡ Some fault)

long_fault_of : (h : Numbers) (front x : List ℕ) → EncodesHeader h front → 43 ≤ length front + length x → IsIsccHeader h → LastingFault h x
long_fault_of h front x s long is = (
  faults.Long,
  λ more. long_fault h (x ++ more) is (omega (arith, too_long h front x s long is, length-append x more)),
)

sub_fault_of : (h : Numbers) (front x : List ℕ) → EncodesHeader h front → 43 ≤ length front + length x → h.main ≤ 5 → h.version ≡ 0 → h.len ≤ 7 → LastingFault h x
sub_fault_of h front x s long m v l =
    elim (cases_Bool (is_sub h.main h.sub h.len)) [
      | inl is ↦ long_fault_of h front x s long (record { main = m; version = v; len = l; sub = is })
      | inr not ↦ (faults.SubType, λ more. sub_fault h (x ++ more) m v l not)
    ]

length_fault_of : (h : Numbers) (front x : List ℕ) → EncodesHeader h front → 43 ≤ length front + length x → h.main ≤ 5 → h.version ≡ 0 → LastingFault h x
length_fault_of h front x s long m v =
    elim (cases_lt 7 h.len) [
      | inl wide ↦ (faults.Length, λ more. length_fault h (x ++ more) m v wide)
      | inr l ↦ sub_fault_of h front x s long m v l
    ]

version_fault_of : (h : Numbers) (front x : List ℕ) → EncodesHeader h front → 43 ≤ length front + length x → h.main ≤ 5 → LastingFault h x
version_fault_of h front x s long m =
    elim (cases_eq h.version 0) [
      | inl v ↦ length_fault_of h front x s long m v
      | inr other ↦ (faults.Version, λ more. version_fault h (x ++ more) m other)
    ]

lasting_fault : (h : Numbers) (front x : List ℕ) → EncodesHeader h front → 43 ≤ length front + length x → LastingFault h x
lasting_fault h front x s long =
    elim (cases_lt 5 h.main) [
      | inl above ↦ (faults.MainType, λ more. main_fault h (x ++ more) above)
      | inr m ↦ version_fault_of h front x s long m
    ]

-- that fault is the first one of the body alone
alone : (h : Numbers) (x : List ℕ) (found : LastingFault h x) → fault_of h x ≡ Some found.0
alone h x found = ap (fault_of h) (sym (append-nil x)) ∙ found.1 []

-- no ISCC has as many bytes
cut_iscc : (iscc : Iscc) (kept : List ℕ) → 43 ≤ length kept → EncodesIscc iscc kept → ⊥
cut_iscc iscc kept len s =
    let h = header_of iscc in
    let x = body_of iscc in
    let found = lasting_fault h s.parts.front x s.parts.encoded (omega (arith, len, ap length s.parts.whole, length-append s.parts.front x)) in
    none-some found.0 (sym (no_fault_in iscc s.valid) ∙ alone h x found)

longer_numbers : (bytes kept more ns rest : List ℕ) → bytes ≡ kept ++ more → BeginsWithNumbers (byte_bits kept) ns rest → BeginsWithNumbers (byte_bits bytes) ns (rest ++ byte_bits more)
longer_numbers bytes kept more ns rest e b = record {
  encodable = b.encodable;
  encoded =
      ap byte_bits e ∙ byte_bits-append kept more ∙ ap (λ t. t ++ byte_bits more) b.encoded ∙ append_assoc (flat_map number_bits ns) rest (byte_bits more);
}

cut_header : (bytes kept more : List ℕ) (fault : HeaderFault) → bytes ≡ kept ++ more → 43 ≤ length kept → HasHeaderFault kept fault → HasHeaderFault bytes fault
cut_header bytes kept more header_faults.Short e len h =
    let most = length_numbers h.before h.numbers.encodable in
    let last = length-number_bits h.ends.number h.ends.encodable in
    absurd (omega (arith, len, length-byte_bits kept, ap length h.numbers.encoded, length-append (flat_map number_bits h.before) h.rest, most.1, most.2, h.fewer, ap length h.ends.encoded, length-append h.rest h.ends.more, last.1, last.3))
cut_header bytes kept more header_faults.NoCode e len h = record {
  before = h.before;
  rest = h.rest ++ byte_bits more;
  fewer = h.fewer;
  numbers = longer_numbers bytes kept more h.before h.rest e h.numbers;
  lacks = record { rest = h.lacks.rest ++ byte_bits more; fifteen = ap (λ t. t ++ byte_bits more) h.lacks.fifteen };
}
cut_header bytes kept more header_faults.Padding e len h =
    let most = length_numbers h.all h.numbers.encodable in
    let long : 4 ≤ length h.rest = omega (arith, len, length-byte_bits kept, ap length h.numbers.encoded, length-append (flat_map number_bits h.all) h.rest, most.1, most.2, h.four) in
    record {
      all = h.all;
      rest = h.rest ++ byte_bits more;
      four = h.four;
      numbers = longer_numbers bytes kept more h.all h.rest e h.numbers;
      odd = h.odd;
      other = λ zeros. h.other (sym (take-append-le 4 h.rest (byte_bits more) long) ∙ zeros);
    }

cut_body : (bytes kept more : List ℕ) (fault : IsccFault) → bytes ≡ kept ++ more → 43 ≤ length kept → HasBodyFault kept fault → HasBodyFault bytes fault
cut_body bytes kept more fault e len h =
    let front = h.parts.front in
    let found = lasting_fault h.header front h.body h.parts.encoded (omega (arith, len, ap length h.parts.whole, length-append front h.body)) in
    let same : found.0 ≡ fault = same_Some found.0 fault (sym (alone h.header h.body found) ∙ h.first) in
    record {
      header = h.header;
      body = h.body ++ more;
      parts = record { front = front; encoded = h.parts.encoded; whole = e ∙ ap (λ t. t ++ more) h.parts.whole ∙ append_assoc front h.body more };
      first = found.1 more ∙ ap Some same;
    }

cut_fault : (bytes kept more : List ℕ) (fault : IsccFault) → bytes ≡ kept ++ more → 43 ≤ length kept → HasFault kept fault → HasFault bytes fault
cut_fault bytes kept more (faults.Header fault) e len h = cut_header bytes kept more fault e len h
cut_fault bytes kept more faults.MainType e len h = cut_body bytes kept more faults.MainType e len h
cut_fault bytes kept more faults.Version e len h = cut_body bytes kept more faults.Version e len h
cut_fault bytes kept more faults.Length e len h = cut_body bytes kept more faults.Length e len h
cut_fault bytes kept more faults.SubType e len h = cut_body bytes kept more faults.SubType e len h
cut_fault bytes kept more faults.Short e len h = cut_body bytes kept more faults.Short e len h
cut_fault bytes kept more faults.Long e len h = cut_body bytes kept more faults.Long e len h

-- what the first bytes are read as
pub kept_fault : (n : ℕ) (bytes : List ℕ) (fault : IsccFault) → 43 ≤ n → HasFault (take n bytes) fault → HasFault bytes fault
kept_fault n bytes fault enough h =
    elim (cases_lt (length bytes) n) [
      | inl few ↦ subst (λ t. HasFault t fault) (take_all n bytes (omega arith)) h
      | inr many ↦ cut_fault bytes (take n bytes) (drop n bytes) fault (sym (take-append-drop n bytes)) (omega (arith, enough, length-take-le n bytes many)) h
    ]

pub kept_iscc : (n : ℕ) (bytes : List ℕ) (iscc : Iscc) → 43 ≤ n → EncodesIscc iscc (take n bytes) → EncodesIscc iscc bytes
kept_iscc n bytes iscc enough h =
    elim (cases_lt (length bytes) n) [
      | inl few ↦ subst (λ t. EncodesIscc iscc t) (take_all n bytes (omega arith)) h
      | inr many ↦ absurd (cut_iscc iscc (take n bytes) (omega (arith, enough, length-take-le n bytes many)) h)
    ]
