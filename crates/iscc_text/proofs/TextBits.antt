-- What the gathered bits tell of the letters.
use Rattle.std.proofs.Common.{◌≡◌, ℕ, ◌<◌, List, ◌++◌, map, sym, ◌∙◌, ap}
use Rattle.std.specs.List.{AllPass}
use Rattle.iscc_header.specs.Bits.{bits_of, byte_bits}
use Rattle.iscc_text.specs.inner.Letters.{digit}
use Rattle.iscc_text.specs.Texts.{is_allowed, capitals, AreLetters}
use Rattle.iscc_text.specs.inner.Gathering.{Gathers, letter_bits}
use Rattle.iscc_text.specs.declared.gather.Gathered.{Gathered}
use Rattle.iscc_text.proofs.LetterDigits.{text_digits}
use Rattle.iscc_text.proofs.LetterGroups.{whole_letters, letters_tell, one_list_of_bytes}

pub gathered_letters : (m : List ℕ) (bits : Gathered) (g : Gathers bits (letter_bits m)) → AllPass is_allowed m → bits.width < 5 → bits.pending ≡ 0 → AreLetters m g.bytes
unfolding letter_bits
gathered_letters m bits g allowed narrow none =
    let text = text_digits m allowed in
    record {
      range = g.range;
      same = sym (whole_letters (map digit (capitals m)) g.bytes bits.width text.0 narrow (g.whole ∙ ap (λ p. byte_bits g.bytes ++ bits_of bits.width p) none) ∙ text.1);
    }

pub gathered_tell : (m : List ℕ) (bits : Gathered) (g : Gathers bits (letter_bits m)) (other : List ℕ) → AllPass is_allowed m → AreLetters m other
    → (bits.width < 5) × (bits.pending ≡ 0) × (other ≡ g.bytes)
unfolding letter_bits
gathered_tell m bits g other allowed are =
    let text = text_digits m allowed in
    letters_tell (map digit (capitals m)) g.bytes other bits.width bits.pending text.0 g.range are.range g.narrow g.fits g.whole (text.1 ∙ are.same)

pub same_letter_bytes : (m a b : List ℕ) → AreLetters m a → AreLetters m b → a ≡ b
same_letter_bytes m a b x y = one_list_of_bytes a b x.range y.range (sym x.same ∙ y.same)
