-- Bits gathered five at a time.
use Rattle.std.proofs.Common.{◌≡◌, ℕ, ◌+◌, ◌-◌, ◌*◌, ◌/◌, ◌%◌, ◌^◌, ◌<◌, ◌≤◌, List, [], ◌∷◌, ◌++◌, length, take, set, min, refl, sym, ◌∙◌, ap, ap₂, append_assoc, append-nil, arith, lit<, inl, inr, subst}
use Rattle.std.specs.Prelude.{replicate}
use Rattle.std.proofs.Math.Nat.{mod-lt}
use Rattle.std.proofs.lemmas.Bool.{cases_lt}
use Rattle.std.proofs.lemmas.Nat.{pow-add, pow_pos, div_below}
use Rattle.std.proofs.lemmas.List.{length_push, take_all, take-append-le, take_more_set, length-set, set_past}
use Rattle.std.proofs.lemmas.List.Elements.{All-push, All-nil}
use Rattle.iscc_header.specs.Bits.{bits_of, byte_bits, IsByte}
use Rattle.iscc_header.proofs.BitLists.{bits_of_split, bits_of-mod, bits_of-append, byte_bits-append}
use Rattle.iscc_text.specs.inner.Gathering.{Gathers}
use Rattle.iscc_text.specs.declared.gather.Gathered.{Gathered}
use Rattle.iscc_text.specs.declared.gather.TheConstants.{KEPT}

pub gathers_nothing : Gathers (record { kept = replicate KEPT 0; count = 0; width = 0; pending = 0 }) []
unfolding bits_of byte_bits
gathers_nothing = record { bytes = []; range = All-nil IsByte; count = refl; array = refl; kept = refl; narrow = lit< tt; fits = lit< tt; whole = refl }

-- the bits behind the last byte grow
pub pending_fits : (width pending digit : ℕ) → pending < 2 ^ width → digit < 32 → pending * 32 + digit < 2 ^ (width + 5)
pending_fits width pending digit fits low = omega (arith, pow-add 2 width 5, fits, low)

-- five bits that don't fill a byte
pub gathers_few : (bits : Gathered) (digit : ℕ) (all : List ℕ) → bits.width < 3 → digit < 32 → Gathers bits all
    → Gathers (record { kept = bits.kept; count = bits.count; width = bits.width + 5; pending = bits.pending * 32 + digit }) (all ++ bits_of 5 digit)
gathers_few bits digit all narrow low g = record {
  bytes = g.bytes;
  range = g.range;
  count = g.count;
  array = g.array;
  kept = g.kept;
  narrow = omega arith;
  fits = pending_fits bits.width bits.pending digit g.fits low;
  whole =
      ap (λ b. b ++ bits_of 5 digit) g.whole
      ∙ append_assoc (byte_bits g.bytes) (bits_of bits.width bits.pending) (bits_of 5 digit)
      ∙ ap (λ b. byte_bits g.bytes ++ b) (sym (bits_of-append bits.width 5 (bits.width + 5) bits.pending digit low refl));
}

-- what is kept with one byte more
kept_more : (most : ℕ) (bytes kept : List ℕ) (count byte : ℕ) → count ≡ length bytes → length kept ≡ most → take most bytes ≡ take (min count most) kept
    → take most (bytes ++ byte ∷ []) ≡ take (min (count + 1) most) (set kept count byte)
kept_more most bytes kept count byte is array e =
    elim (cases_lt count most) [
      | inl room ↦
          (let now : min count most ≡ count = omega arith in
          let next : min (count + 1) most ≡ count + 1 = omega arith in
          let all : bytes ≡ take count kept = sym (take_all most bytes (omega arith)) ∙ e ∙ ap (λ n. take n kept) now in
          take_all most (bytes ++ byte ∷ []) (omega (arith, length_push bytes byte))
          ∙ ap (λ b. b ++ byte ∷ []) all
          ∙ sym (take_more_set kept count byte (omega arith))
          ∙ ap (λ n. take n (set kept count byte)) (sym next))
      | inr full ↦
          (let now : min count most ≡ most = omega arith in
          let next : most ≡ min (count + 1) most = omega arith in
          take-append-le most bytes (byte ∷ []) (omega arith)
          ∙ e
          ∙ ap₂ (λ n ks. take n ks) (now ∙ next) (sym (set_past kept count byte (omega arith))))
    ]

-- five bits that fill a byte
pub gathers_byte : (bits : Gathered) (digit : ℕ) (all kept : List ℕ) → 3 ≤ bits.width → digit < 32
    → kept ≡ set bits.kept bits.count ((bits.pending * 32 + digit) / 2 ^ (bits.width - 3)) → Gathers bits all
    → Gathers (record { kept = kept; count = bits.count + 1; width = bits.width - 3; pending = (bits.pending * 32 + digit) % 2 ^ (bits.width - 3) }) (all ++ bits_of 5 digit)
unfolding byte_bits
gathers_byte bits digit all kept wide low written g =
    let w = bits.width - 3 in
    let p = bits.pending * 32 + digit in
    let byte = p / 2 ^ w in
    let whole : bits.width + 5 ≡ 8 + w = omega (arith, g.narrow) in
    let below : p < 2 ^ (8 + w) = subst (λ t. p < 2 ^ t) whole (pending_fits bits.width bits.pending digit g.fits low) in
    let small : byte < 256 = div_below p (2 ^ w) 256 (pow_pos w) (omega (arith, below, pow-add 2 8 w)) in
    record {
      bytes = g.bytes ++ byte ∷ [];
      range = All-push IsByte g.bytes byte g.range small;
      count = ap (λ n. n + 1) g.count ∙ sym (length_push g.bytes byte);
      array = ap length written ∙ length-set bits.kept bits.count byte ∙ g.array;
      kept = kept_more KEPT g.bytes bits.kept bits.count byte g.count g.array g.kept ∙ ap (take (min (bits.count + 1) KEPT)) (sym written);
      narrow = omega (arith, g.narrow);
      fits = mod-lt p (pow_pos w);
      whole =
          ap (λ b. b ++ bits_of 5 digit) g.whole
          ∙ append_assoc (byte_bits g.bytes) (bits_of bits.width bits.pending) (bits_of 5 digit)
          ∙ ap (λ b. byte_bits g.bytes ++ b)
          (sym (bits_of-append bits.width 5 (bits.width + 5) bits.pending digit low refl)
          ∙ bits_of_split 8 w (bits.width + 5) p whole
          ∙ ap₂ (λ x y. x ++ y) (sym (append-nil (bits_of 8 byte))) (sym (bits_of-mod w p)))
          ∙ sym (append_assoc (byte_bits g.bytes) (byte_bits (byte ∷ [])) (bits_of w (p % 2 ^ w)))
          ∙ ap (λ b. b ++ bits_of w (p % 2 ^ w)) (sym (byte_bits-append g.bytes (byte ∷ [])));
    }

pub byte_fits : (width pending digit : ℕ) → 3 ≤ width → width < 8 → pending < 2 ^ width → digit < 32 → (pending * 32 + digit) / 2 ^ (width - 3) < 256
byte_fits width pending digit wide narrow fits low =
    let w = width - 3 in
    let whole : width + 5 ≡ 8 + w = omega arith in
    let below : pending * 32 + digit < 2 ^ (8 + w) = subst (λ t. pending * 32 + digit < 2 ^ t) whole (pending_fits width pending digit fits low) in
    div_below (pending * 32 + digit) (2 ^ w) 256 (pow_pos w) (omega (arith, below, pow-add 2 8 w))
