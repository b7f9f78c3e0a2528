-- What stands at a nibble place: a number, the end of the bytes within one, or none.
use Rattle.std.proofs.Common.{◌≡◌, ℕ, ◌+◌, ◌-◌, ◌*◌, ◌^◌, ◌<◌, ◌≤◌, List, [], ◌++◌, refl, sym, ◌∙◌, ap, append_assoc, length, arith, Result, Ok, Err}
use Rattle.std.specs.Prelude.{IsOkAnd, IfOk, MatchResult}
use Rattle.std.proofs.lemmas.List.{drop_all}
use Rattle.std.proofs.lemmas.Nat.{pow-add}
use Rattle.iscc_header.specs.Bits.{bits_of, byte_bits}
use Rattle.iscc_header.specs.Headers.{number_bits, bits_from, BeginsWithNumber, EndsWithinNumber, BeginsWithNoNumber}
use Rattle.iscc_header.specs.inner.Reading.{ReadsNumber}
use Rattle.iscc_header.specs.declared.number.NibbleFault.{NibbleFault}
use Rattle.iscc_header.specs.declared.number.NibbleFault.TheVariants.{Short, NoCode}
use Rattle.iscc_header.proofs.BitLists.{length-bits_of, bits_of-append, last_bits, filled, length-byte_bits}
use Rattle.iscc_header.proofs.NumberEncodings.{nibbles_2, nibbles_3, nibbles_4, one_number, whole_or_cut, whole_or_none, cut_or_none}

pub reads_complete : (bytes : List ℕ) (at : ℕ) (r : Result (ℕ × ℕ) NibbleFault) (n : ℕ) (rest : List ℕ) → ReadsNumber bytes at r → BeginsWithNumber (bits_from bytes at) n rest → IsOkAnd r (λ read. read.0 ≡ n)
reads_complete bytes at (Ok read) n rest h b = (one_number _ _ _ _ _ h.1 b).0
reads_complete bytes at (Err Short) n rest h b = absurd (whole_or_cut _ _ _ b h)
reads_complete bytes at (Err NoCode) n rest h b = absurd (whole_or_none _ _ _ b h)

pub reads_short : (bytes : List ℕ) (at : ℕ) (r : Result (ℕ × ℕ) NibbleFault) → ReadsNumber bytes at r → EndsWithinNumber (bits_from bytes at) → r ≡ Err Short
reads_short bytes at (Ok read) h b = absurd (whole_or_cut _ _ _ h.1 b)
reads_short bytes at (Err Short) h b = refl
reads_short bytes at (Err NoCode) h b = absurd (cut_or_none _ b h)

pub reads_none : (bytes : List ℕ) (at : ℕ) (r : Result (ℕ × ℕ) NibbleFault) → ReadsNumber bytes at r → BeginsWithNoNumber (bits_from bytes at) → r ≡ Err NoCode
reads_none bytes at (Ok read) h b = absurd (whole_or_none _ _ _ h.1 b)
reads_none bytes at (Err Short) h b = absurd (cut_or_none _ h b)
reads_none bytes at (Err NoCode) h b = refl

pub reads_found : (bytes : List ℕ) (at : ℕ) (r : Result (ℕ × ℕ) NibbleFault) → ReadsNumber bytes at r → IfOk r (λ read. BeginsWithNumber (bits_from bytes at) read.0 (bits_from bytes read.1))
reads_found bytes at (Ok read) h = h.1
reads_found bytes at (Err fault) h = tt

pub reads_within : (bytes : List ℕ) (at : ℕ) (r : Result (ℕ × ℕ) NibbleFault) → ReadsNumber bytes at r → IfOk r (λ read. read.1 ≤ 2 * length bytes)
reads_within bytes at (Ok read) h = h.0
reads_within bytes at (Err fault) h = tt

-- at the end of the bytes
pub ends_at_end : (bytes : List ℕ) (at : ℕ) → at ≡ 2 * length bytes → EndsWithinNumber (bits_from bytes at)
unfolding bits_of
ends_at_end bytes at e =
    let none : bits_from bytes at ≡ [] = drop_all (4 * at) (byte_bits bytes) (omega (arith, length-byte_bits bytes)) in
    record { number = 0; more = number_bits 0; encodable = omega arith; wanted = omega arith; encoded = ap (λ front. front ++ number_bits 0) (sym none) }

-- the encodings that begin with a nibble: that nibble and so many others, for the numbers from the least on
pub record IsRow (first count least : ℕ) : Type 0 where
  pub encoded : (u : ℕ) → u < 2 ^ (4 * count) → number_bits (least + u) ≡ bits_of 4 first ++ bits_of (4 * count) u
  pub within : least + 2 ^ (4 * count) ≤ 4680

pub row_from_8 : (first : ℕ) → 8 ≤ first → first ≤ 11 → IsRow first 1 (8 + 16 * (first - 8))
row_from_8 first l h = record {
  encoded = λ u k.
      let n = 8 + 16 * (first - 8) + u in
      sym (nibbles_2 n (omega arith) (omega arith))
      ∙ ap (bits_of 8) (let same : 128 + (n - 8) ≡ first * 2 ^ 4 + u = omega arith in same)
      ∙ bits_of-append 4 4 8 first u k refl;
  within = omega arith;
}

pub row_from_12 : (first : ℕ) → 12 ≤ first → first ≤ 13 → IsRow first 2 (72 + 256 * (first - 12))
row_from_12 first l h = record {
  encoded = λ u k.
      let n = 72 + 256 * (first - 12) + u in
      sym (nibbles_3 n (omega arith) (omega arith))
      ∙ ap (bits_of 12) (let same : 3072 + (n - 72) ≡ first * 2 ^ 8 + u = omega arith in same)
      ∙ bits_of-append 4 8 12 first u k refl;
  within = omega arith;
}

pub row_from_14 : IsRow 14 3 584
row_from_14 = record {
  encoded = λ u k.
      sym (nibbles_4 (584 + u) (omega arith) (omega arith))
      ∙ ap (bits_of 16) (let same : 57344 + (584 + u - 584) ≡ 14 * 2 ^ 12 + u = omega arith in same)
      ∙ bits_of-append 4 12 16 14 u k refl;
  within = omega arith;
}

-- the other nibbles are there
pub row_read : (bytes : List ℕ) (at next first count least number u : ℕ) → IsRow first count least
    → bits_from bytes at ≡ bits_of 4 first ++ bits_from bytes (at + 1)
    → number ≡ least + u → u < 2 ^ (4 * count) → bits_from bytes (at + 1) ≡ bits_of (4 * count) u ++ bits_from bytes next
    → BeginsWithNumber (bits_from bytes at) number (bits_from bytes next)
row_read bytes at next first count least number u row front is small others = record {
  encodable = omega (arith, row.within);
  encoded =
      front
      ∙ ap (λ bits. bits_of 4 first ++ bits) others
      ∙ sym (append_assoc (bits_of 4 first) (bits_of (4 * count) u) (bits_from bytes next))
      ∙ ap (λ bits. bits ++ bits_from bytes next) (sym (row.encoded u small) ∙ ap number_bits (sym is));
}

-- the bytes end before
pub row_cut : (bytes : List ℕ) (at first count least : ℕ) → IsRow first count least
    → bits_from bytes at ≡ bits_of 4 first ++ bits_from bytes (at + 1)
    → at + 1 ≤ 2 * length bytes → 2 * length bytes < at + 1 + count → EndsWithinNumber (bits_from bytes at)
row_cut bytes at first count least row front in' short =
    let m = 8 * length bytes - 4 * (at + 1) in
    let rest = last_bits bytes (4 * (at + 1)) (omega arith) in
    let whole = filled (4 * count) m rest.0 (omega arith) in
    let w = 4 * count - m in
    record {
      number = least + whole.0;
      more = bits_of w 0;
      encodable = omega (arith, row.within, whole.1);
      wanted = omega (arith, length-bits_of w 0);
      encoded =
          row.encoded whole.0 whole.1
          ∙ ap (λ bits. bits_of 4 first ++ bits) (whole.2 ∙ ap (λ bits. bits ++ bits_of w 0) (sym rest.1))
          ∙ sym (append_assoc (bits_of 4 first) (bits_from bytes (at + 1)) (bits_of w 0))
          ∙ ap (λ bits. bits ++ bits_of w 0) (sym front);
    }

-- what the reader of the other nibbles answers
abbrev pub ReadsRest : List ℕ → ℕ → ℕ → ℕ → Result (ℕ × ℕ) NibbleFault → Type 0
ReadsRest bytes at count least r =
    MatchResult r
    (λ read. (number : ℕ) × (read.0 ≡ least + number) × (number < 2 ^ (4 * count)) × (read.1 ≤ 2 * length bytes) × (bits_from bytes at ≡ bits_of (4 * count) number ++ bits_from bytes read.1))
    (λ fault. (fault ≡ Short) × (2 * length bytes < at + count))

pub row_reads : (bytes : List ℕ) (at first count least : ℕ) (r : Result (ℕ × ℕ) NibbleFault) → IsRow first count least
    → bits_from bytes at ≡ bits_of 4 first ++ bits_from bytes (at + 1)
    → at + 1 ≤ 2 * length bytes → ReadsRest bytes (at + 1) count least r → ReadsNumber bytes at r
row_reads bytes at first count least (Ok read) row front in' h = (h.3, row_read bytes at read.1 first count least read.0 h.0 row front h.1 h.2 h.4)
row_reads bytes at first count least (Err Short) row front in' h = row_cut bytes at first count least row front in' h.1
row_reads bytes at first count least (Err NoCode) row front in' h = (let same : NoCode ≡ Short = h.0 in cc)

-- one nibble more of a number
pub one_nibble_more : (bytes : List ℕ) (at i number nibble : ℕ) → number < 2 ^ (4 * i) → nibble < 16
    → bits_from bytes at ≡ bits_of (4 * i) number ++ bits_from bytes (at + i)
    → bits_from bytes (at + i) ≡ bits_of 4 nibble ++ bits_from bytes (at + i + 1)
    → (16 * number + nibble < 2 ^ (4 * (i + 1))) × (bits_from bytes at ≡ bits_of (4 * (i + 1)) (16 * number + nibble) ++ bits_from bytes (at + (i + 1)))
one_nibble_more bytes at i number nibble small low before next =
    let longer : 4 * (i + 1) ≡ 4 * i + 4 = omega arith in
    let power : 2 ^ (4 * (i + 1)) ≡ 2 ^ (4 * i) * 16 = ap (λ t. 2 ^ t) longer ∙ pow-add 2 (4 * i) 4 in
    let place : at + i + 1 ≡ at + (i + 1) = omega arith in
    let turned : 16 * number + nibble ≡ number * 2 ^ 4 + nibble = omega arith in (
      omega (arith, power, small, low),
      before
          ∙ ap (λ bits. bits_of (4 * i) number ++ bits) (next ∙ ap (λ k. bits_of 4 nibble ++ bits_from bytes k) place)
          ∙ sym (append_assoc (bits_of (4 * i) number) (bits_of 4 nibble) (bits_from bytes (at + (i + 1))))
          ∙ ap (λ bits. bits ++ bits_from bytes (at + (i + 1))) (sym (bits_of-append (4 * i) 4 (4 * (i + 1)) number nibble low longer) ∙ ap (bits_of (4 * (i + 1))) (sym turned)),
    )
