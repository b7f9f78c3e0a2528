use Rattle.std.proofs.Common.{◌≡◌, ◌++◌, List, ℕ, [], ◌∷◌, sym, ◌∙◌, ap, append-nil, subst}
use Rattle.iscc_header.specs.Bits.{bits_of}
use Rattle.iscc_text.specs.inner.Gathering.{Gathers, letter_bits}
use Rattle.iscc_text.specs.inner.Letters.{digit}
use Rattle.iscc_text.specs.Texts.{capital}
use Rattle.iscc_text.proofs.LetterDigits.{hyphen_bits, one_letter_bits}
use Rattle.iscc_text.proofs.gather.add.Goals as goal

pub returns-then-byte-eq45-clause-gathers : goal.returns-then-byte-eq45-clause-gathers
returns-then-byte-eq45-clause-gathers c = λ all g.
    let none : letter_bits (c.args.byte ∷ []) ≡ [] = ap (λ b. letter_bits (b ∷ [])) c.if-byte-eq45.true ∙ hyphen_bits in
    let P : List ℕ → Type 0 = λ t. Gathers c.args.bits.now t in
    subst P (sym (ap (λ t. all ++ t) none ∙ append-nil all)) g

pub returns-clause-gathers : goal.returns-clause-gathers
unfolding capital
returns-clause-gathers c = λ all g.
    let five : bits_of 5 c.digit.result ≡ letter_bits (c.args.byte ∷ []) =
    ap (bits_of 5) (c.digit.ensures.value ∙ ap digit c.to_ascii_uppercase.ensures.value) ∙ sym (one_letter_bits c.args.byte c.if-byte-eq45.false) in
    let P : List ℕ → Type 0 = λ t. Gathers c.push.new.bits (all ++ t) in
    subst P five (c.push.ensures.gathers all g)
