-- A printed text stands for its ISCC and is its only one, and the text of a unit of 64 bits is a printed one.
use Rattle.std.proofs.Common.{◌≡◌, ℕ, ◌+◌, ◌*◌, ◌<◌, List, [], ◌∷◌, ◌++◌, map, true, refl, sym, ◌∙◌, ap, ap₂, append-nil, arith, inr, subst, lit<, lit≤}
use Rattle.std.specs.Prelude.{Bool, ◌==◌, ◌&&◌, codes}
use Rattle.std.specs.List.{AllPass}
use Rattle.std.specs.Int.{w64, to_be_bytes}
use Rattle.std.specs.Str.{bytes_eq}
use Rattle.std.proofs.lemmas.Bool.{and_parts, eqb-true}
use Rattle.std.proofs.lemmas.Slice.Eq.{bytes_eq-Decides}
use Rattle.std.proofs.lemmas.List.Elements.{All-head, All-tail, All-nil, All-cons}
use Rattle.iscc_header.specs.Bits.{bits_of, byte_bits, IsByte}
use Rattle.iscc_header.specs.Kinds.{main_of, sub_of}
use Rattle.iscc_header.specs.Headers.{header_bits}
use Rattle.iscc_header.specs.Unit64s.{IsUnit64}
use Rattle.iscc_header.specs.declared.unit.Unit64.{Unit64}
use Rattle.iscc_header.proofs.BitLists.{byte_bits-append}
use Rattle.iscc_header.proofs.EachBelow.{each_below}
use Rattle.iscc_header.proofs.KindFacts.{small_pair}
use Rattle.iscc_code.specs.Units.{unit_parts}
use Rattle.iscc_code.specs.Codes.{EncodesIscc}
use Rattle.iscc_code.specs.declared.iscc.Iscc.{Iscc}
use Rattle.iscc_code.specs.declared.iscc.Iscc.TheVariants as variants
use Rattle.iscc_code.proofs.OneCode.{same_encoding}
use Rattle.iscc_code.proofs.BodyBytes.{byte_bits-high_first, high_first-bytes}
use Rattle.iscc_text.specs.Base32.{letter, letters}
use Rattle.iscc_text.specs.UnitText.{unit_bits, unit_text}
use Rattle.iscc_text.specs.PrintedTexts.{IsPrintedText}
use Rattle.iscc_text.specs.Texts.{is_letter, is_allowed, is_no_hyphen, capital, capitals, IsScheme, StandsFor}
use Rattle.iscc_text.proofs.LetterDigits.{AreDigits}
use Rattle.iscc_text.proofs.LetterGroups.{byte_digits}

-- a letter may stand among the letters, is a capital, and is no hyphen
unfoldable is_plain : ℕ → Bool
is_plain c = is_allowed c && (is_no_hyphen c && (capital c == c))

plain : (d : ℕ) → d < 32 → is_plain (letter d) ≡ true
unfolding is_plain is_allowed is_letter capital
plain d h = each_below 32 (λ d. is_plain (letter d)) refl d h

plain_parts : (c : ℕ) → is_plain c ≡ true → (is_allowed c ≡ true) × (is_no_hyphen c ≡ true) × (capital c ≡ c)
unfolding is_plain
plain_parts c h =
    let parts = and_parts (is_allowed c) (is_no_hyphen c && (capital c == c)) h in
    let more = and_parts (is_no_hyphen c) (capital c == c) parts.1 in
    (parts.0, more.0, eqb-true (capital c) c more.1)

one_more : (c : ℕ) (cs : List ℕ) → is_no_hyphen c ≡ true → capital c ≡ c → capitals cs ≡ cs → capitals (c ∷ cs) ≡ c ∷ cs
unfolding capitals
one_more c cs no_hyphen same rest = rw no_hyphen (ap₂ (λ x xs. x ∷ xs) same rest)

-- letters stand for themselves
plain_letters : (ds : List ℕ) → AreDigits ds → AllPass is_allowed (map letter ds) × (capitals (map letter ds) ≡ map letter ds)
unfolding capitals
plain_letters [] h = (All-nil (λ b. is_allowed b ≡ true), refl)
plain_letters (d ∷ ds) h =
    let rest = plain_letters ds (All-tail (λ d. d < 32) d ds h) in
    let one = plain_parts (letter d) (plain d (All-head (λ d. d < 32) d ds h)) in
    (All-cons (λ b. is_allowed b ≡ true) (letter d) (map letter ds) one.0 rest.0, one_more (letter d) (map letter ds) one.1 one.2 rest.1)

its_scheme : IsScheme (codes "ISCC:")
unfolding capital
its_scheme = refl

pub printed_stands : (iscc : Iscc) (text : List ℕ) → IsPrintedText iscc text → StandsFor text iscc
printed_stands iscc text h =
    let m = letters (byte_bits h.encoding) in
    let of = byte_digits h.encoding in
    let plain = plain_letters of.0 of.1 in
    let none : List ℕ = [] in
    record {
      before = none;
      scheme = codes "ISCC:";
      m = m;
      after = none;
      encoding = h.encoding;
      whole = h.same ∙ sym (append-nil (codes "ISCC:" ++ m));
      blanks = (All-nil _, All-nil _);
      named = inr its_scheme;
      allowed = subst (λ t. AllPass is_allowed t) (sym of.2) plain.0;
      same = ap capitals of.2 ∙ plain.1 ∙ sym of.2;
      encoded = h.encoded;
    }

pub one_printed : (iscc : Iscc) (a b : List ℕ) → IsPrintedText iscc a → IsPrintedText iscc b → a ≡ b
one_printed iscc a b h k =
    h.same ∙ ap (λ bytes. codes "ISCC:" ++ letters (byte_bits bytes)) (same_encoding iscc h.encoding k.encoding h.encoded k.encoded) ∙ sym k.same

-- the header of a unit of 64 bits, as bytes
abbrev header_bytes : ℕ → List ℕ
header_bytes kind = (main_of kind * 16 + sub_of kind) ∷ 1 ∷ []

header_bytes_bits : (kind : ℕ) → kind < 13 → byte_bits (header_bytes kind) ≡ header_bits (main_of kind) (sub_of kind) 0 1
unfolding byte_bits bits_of
header_bytes_bits kind h =
    (bytes_eq-Decides _ _).0 (each_below 13 (λ k. bytes_eq (byte_bits (header_bytes k)) (header_bits (main_of k) (sub_of k) 0 1)) refl kind h)

-- the encoding of a unit of 64 bits
abbrev unit_encoding : Unit64 → List ℕ
unit_encoding unit = header_bytes unit.kind ++ to_be_bytes w64 unit.body

unit_encoded : (unit : Unit64) → IsUnit64 unit → EncodesIscc (variants.Unit (unit_parts unit)) (unit_encoding unit)
unit_encoded unit h =
    let small = small_pair unit.kind h.kind in
    record {
      valid = record {
        kind = h.kind;
        len = record { least = lit≤ tt; most = lit≤ tt; fours = refl };
        bytes = high_first-bytes 8 unit.body;
      };
      parts = record {
        front = header_bytes unit.kind;
        encoded = record {
          numbers = record { main = omega (arith, small.0); sub = omega (arith, small.1); version = lit< tt; len = lit< tt };
          range = All-cons IsByte (main_of unit.kind * 16 + sub_of unit.kind) (1 ∷ []) (omega (arith, small.0, small.1)) (All-cons IsByte 1 [] (lit< tt) (All-nil IsByte));
          encoded = header_bytes_bits unit.kind h.kind;
        };
        whole = refl;
      };
    }

unit_bits-encoding : (unit : Unit64) → IsUnit64 unit → unit_bits unit ≡ byte_bits (unit_encoding unit)
unit_bits-encoding unit h =
    ap₂ (λ front body. front ++ body) (sym (header_bytes_bits unit.kind h.kind)) (sym (byte_bits-high_first 8 unit.body))
    ∙ sym (byte_bits-append (header_bytes unit.kind) (to_be_bytes w64 unit.body))

pub unit_text_printed : (unit : Unit64) → IsUnit64 unit → IsPrintedText (variants.Unit (unit_parts unit)) (unit_text unit)
unfolding unit_text
unit_text_printed unit h = record {
  encoding = unit_encoding unit;
  encoded = unit_encoded unit h;
  same = ap (λ bits. codes "ISCC:" ++ letters bits) (unit_bits-encoding unit h);
}
