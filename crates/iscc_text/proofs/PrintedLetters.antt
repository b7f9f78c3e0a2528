-- The letters of bytes, printed one after the other.
use Rattle.std.proofs.Common.{◌≡◌, ℕ, ◌+◌, ◌-◌, ◌*◌, ◌/◌, ◌%◌, ◌^◌, ◌<◌, ◌≤◌, List, [], ◌∷◌, ◌++◌, length, length-append, map, drop, get_or, refl, sym, ◌∙◌, ap, ap₂, append_assoc, append-nil, arith, inl, inr}
use Rattle.std.specs.Prelude.{codes}
use Rattle.std.specs.List.{flat_map}
use Rattle.std.proofs.Math.Nat.{zero-div}
use Rattle.std.proofs.lemmas.List.{drop-drop, drop_at, drop_more, map-append, drop-append-le, drop_all}
use Rattle.std.proofs.lemmas.Bool.{cases_lt}
use Rattle.std.proofs.lemmas.List.Concat.{flat_map-append}
use Rattle.std.proofs.lemmas.List.Elements.{All-push, All-nil}
use Rattle.iscc_header.specs.Bits.{bits_of, byte_bits}
use Rattle.iscc_header.proofs.BitLists.{length-bits_of, length-byte_bits, bits_of_split, bits_of-mod, bits_of-append, drop-byte_bits, same_fronts}
use Rattle.iscc_text.specs.Base32.{letter, letters}
use Rattle.iscc_text.proofs.LetterDigits.{AreDigits}
use Rattle.iscc_text.proofs.LetterGroups.{whole_letters, length-digits}

-- the bits of bytes with eight zeros behind them
abbrev pub spread : List ℕ → List ℕ
spread bytes = byte_bits bytes ++ bits_of 8 0

-- some digits are printed, whose bits are the first of the bytes'
pub record PrintsSoFar (bytes : List ℕ) (i : ℕ) (text : List ℕ) : Type 0 where
  pub digits : List ℕ
  pub small : AreDigits digits
  pub count : length digits ≡ i
  pub text_is : text ≡ codes "ISCC:" ++ map letter digits
  pub bits : spread bytes ≡ flat_map (bits_of 5) digits ++ drop (5 * i) (spread bytes)

pub prints_nothing : (bytes text : List ℕ) → text ≡ codes "ISCC:" → PrintsSoFar bytes 0 text
prints_nothing bytes text e = record { digits = []; small = All-nil (λ d. d < 32); count = refl; text_is = e; bits = refl }

pub prints_more : (bytes text after : List ℕ) (i digit : ℕ) → PrintsSoFar bytes i text → digit < 32
    → drop (5 * i) (spread bytes) ≡ bits_of 5 digit ++ drop (5 * (i + 1)) (spread bytes)
    → after ≡ text ++ letter digit ∷ [] → PrintsSoFar bytes (i + 1) after
prints_more bytes text after i digit so_far low next written = record {
  digits = so_far.digits ++ digit ∷ [];
  small = All-push (λ d. d < 32) so_far.digits digit so_far.small low;
  count = length-append so_far.digits (digit ∷ []) ∙ ap (λ n. n + 1) so_far.count;
  text_is =
      written
      ∙ ap (λ t. t ++ letter digit ∷ []) so_far.text_is
      ∙ append_assoc (codes "ISCC:") (map letter so_far.digits) (letter digit ∷ [])
      ∙ ap (λ ls. codes "ISCC:" ++ ls) (sym (map-append letter so_far.digits (digit ∷ [])));
  bits =
      so_far.bits
      ∙ ap (λ b. flat_map (bits_of 5) so_far.digits ++ b) next
      ∙ sym (append_assoc (flat_map (bits_of 5) so_far.digits) (bits_of 5 digit) (drop (5 * (i + 1)) (spread bytes)))
      ∙ ap (λ b. b ++ drop (5 * (i + 1)) (spread bytes))
      (ap (λ b. flat_map (bits_of 5) so_far.digits ++ b) (sym (append-nil (bits_of 5 digit))) ∙ sym (flat_map-append (bits_of 5) so_far.digits (digit ∷ [])));
}

-- all letters are printed
pub prints_all : (bytes text : List ℕ) (i : ℕ) → i ≡ (8 * length bytes + 4) / 5 → PrintsSoFar bytes i text → text ≡ codes "ISCC:" ++ letters (byte_bits bytes)
prints_all bytes text i done so_far =
    let w = 5 * i - 8 * length bytes in
    let left = drop (5 * i) (spread bytes) in
    let zeros : bits_of 8 0 ≡ bits_of w 0 ++ bits_of (8 - w) 0 =
    bits_of_split w (8 - w) 8 0 (omega arith) ∙ ap (λ n. bits_of w n ++ bits_of (8 - w) 0) (zero-div (2 ^ (8 - w))) in
    let whole : byte_bits bytes ++ bits_of w 0 ++ bits_of (8 - w) 0 ≡ flat_map (bits_of 5) so_far.digits ++ left =
    append_assoc (byte_bits bytes) (bits_of w 0) (bits_of (8 - w) 0) ∙ ap (λ b. byte_bits bytes ++ b) (sym zeros) ∙ so_far.bits in
    let len : length (byte_bits bytes ++ bits_of w 0) ≡ length (flat_map (bits_of 5) so_far.digits) =
    length-append (byte_bits bytes) (bits_of w 0) ∙ omega (arith, length-byte_bits bytes, length-bits_of w 0, length-digits so_far.digits, so_far.count) in
    let front = (same_fronts (byte_bits bytes ++ bits_of w 0) (flat_map (bits_of 5) so_far.digits) (bits_of (8 - w) 0) left len whole).0 in
    so_far.text_is ∙ ap (λ ls. codes "ISCC:" ++ ls) (sym (whole_letters so_far.digits bytes w so_far.small (omega arith) (sym front)))

-- the two bytes in which five bits lie
two_bytes : (bytes : List ℕ) (j next : ℕ) → j < length bytes → (j + 1 < length bytes → next ≡ get_or bytes (j + 1) 0) → (length bytes ≤ j + 1 → next ≡ 0)
    → (rest : List ℕ) × (drop (8 * j) (spread bytes) ≡ bits_of 8 (get_or bytes j 0) ++ (bits_of 8 next ++ rest))
unfolding byte_bits
two_bytes bytes j next h inside past =
    let b = get_or bytes j 0 in
    let from : drop (8 * j) (spread bytes) ≡ byte_bits (drop j bytes) ++ bits_of 8 0 =
    drop-append-le (8 * j) (byte_bits bytes) (bits_of 8 0) (omega (arith, length-byte_bits bytes)) ∙ ap (λ t. t ++ bits_of 8 0) (drop-byte_bits j bytes) in
    let first : byte_bits (drop j bytes) ≡ bits_of 8 b ++ byte_bits (drop (j + 1) bytes) = ap byte_bits (drop_more bytes j 0 h) in
    elim (cases_lt (j + 1) (length bytes)) [
      | inl more ↦ (
        byte_bits (drop (j + 1 + 1) bytes) ++ bits_of 8 0,
        from
            ∙ ap (λ t. t ++ bits_of 8 0) (first ∙ ap (λ t. bits_of 8 b ++ t) (ap byte_bits (drop_more bytes (j + 1) 0 more) ∙ ap (λ n. bits_of 8 n ++ byte_bits (drop (j + 1 + 1) bytes)) (sym (inside more))))
            ∙ append_assoc (bits_of 8 b) (bits_of 8 next ++ byte_bits (drop (j + 1 + 1) bytes)) (bits_of 8 0)
            ∙ ap (λ t. bits_of 8 b ++ t) (append_assoc (bits_of 8 next) (byte_bits (drop (j + 1 + 1) bytes)) (bits_of 8 0)),
      )
      | inr last ↦ (
        [],
        from
            ∙ ap (λ t. t ++ bits_of 8 0) (first ∙ ap (λ t. bits_of 8 b ++ byte_bits t) (drop_all (j + 1) bytes last))
            ∙ append_assoc (bits_of 8 b) [] (bits_of 8 0)
            ∙ ap (λ t. bits_of 8 b ++ t) (ap (bits_of 8) (sym (past last)) ∙ sym (append-nil (bits_of 8 next))),
      )
    ]

-- five bits within two bytes
pub five_of_two : (bytes : List ℕ) (i next two : ℕ) → 5 * i < 8 * length bytes
    → (5 * i / 8 + 1 < length bytes → next ≡ get_or bytes (5 * i / 8 + 1) 0) → (length bytes ≤ 5 * i / 8 + 1 → next ≡ 0) → next < 256
    → two ≡ get_or bytes (5 * i / 8) 0 * 256 + next
    → drop (5 * i) (spread bytes) ≡ bits_of 5 (two / 2 ^ (11 - 5 * i % 8) % 32) ++ drop (5 * (i + 1)) (spread bytes)
five_of_two bytes i next two h inside past low is =
    let j = 5 * i / 8 in
    let r = 5 * i % 8 in
    let w = 11 - r in
    let there = two_bytes bytes j next (omega arith) inside past in
    let rest = there.0 in
    let both : bits_of 8 (get_or bytes j 0) ++ bits_of 8 next ≡ bits_of 16 two = sym (bits_of-append 8 8 16 (get_or bytes j 0) next low refl) ∙ ap (bits_of 16) (sym is) in
    let here : drop (8 * j) (spread bytes) ≡ bits_of 16 two ++ rest =
    there.1 ∙ sym (append_assoc (bits_of 8 (get_or bytes j 0)) (bits_of 8 next) rest) ∙ ap (λ t. t ++ rest) both in
    let front = two / 2 ^ (5 + w) in
    let five = two / 2 ^ w in
    let parts : bits_of 16 two ≡ bits_of r front ++ (bits_of 5 five ++ bits_of w two) =
    bits_of_split r (5 + w) 16 two (omega arith) ∙ ap (λ t. bits_of r front ++ t) (bits_of_split 5 w (5 + w) two refl) in
    let split : drop (8 * j) (spread bytes) ≡ bits_of r front ++ (bits_of 5 five ++ (bits_of w two ++ rest)) =
    here ∙ ap (λ t. t ++ rest) parts ∙ append_assoc (bits_of r front) (bits_of 5 five ++ bits_of w two) rest
    ∙ ap (λ t. bits_of r front ++ t) (append_assoc (bits_of 5 five) (bits_of w two) rest) in
    let place : 5 * i ≡ 8 * j + r = omega arith in
    let after : 5 * (i + 1) ≡ 8 * j + (r + 5) = omega arith in
    let from : drop (5 * i) (spread bytes) ≡ bits_of 5 five ++ (bits_of w two ++ rest) =
    ap (λ n. drop n (spread bytes)) place ∙ sym (drop-drop r (8 * j) (spread bytes)) ∙ ap (drop r) split
    ∙ drop_at (bits_of r front) (bits_of 5 five ++ (bits_of w two ++ rest)) r (length-bits_of r front) in
    let next_place : 5 * (i + 1) ≡ 5 * i + 5 = omega arith in
    let behind : drop (5 * (i + 1)) (spread bytes) ≡ bits_of w two ++ rest =
    ap (λ n. drop n (spread bytes)) next_place ∙ sym (drop-drop 5 (5 * i) (spread bytes)) ∙ ap (drop 5) from
    ∙ drop_at (bits_of 5 five) (bits_of w two ++ rest) 5 (length-bits_of 5 five) in
    from ∙ ap₂ (λ x y. x ++ y) (sym (bits_of-mod 5 five)) (sym behind)
