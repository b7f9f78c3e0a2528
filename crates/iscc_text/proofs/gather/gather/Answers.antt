use Rattle.std.proofs.Common.{◌≡◌, ◌+◌, ◌++◌, List, ℕ, [], ◌∷◌, take, get_or, sym, ◌∙◌, ap, subst, arith}
use Rattle.std.proofs.lemmas.List.{take_more}
use Rattle.iscc_text.specs.Texts.{capitals}
use Rattle.iscc_text.specs.inner.Gathering.{Gathers, letter_bits}
use Rattle.iscc_text.proofs.LetterDigits.{letter_bits-push}
use Rattle.iscc_text.proofs.GatheredBits.{gathers_nothing}
use Rattle.iscc_text.proofs.gather.gather.Goals as goal

pub loop-byte-init : goal.loop-byte-init
unfolding letter_bits capitals
loop-byte-init c = (gathers_nothing, omega arith)

pub loop-byte-preserved : goal.loop-byte-preserved
loop-byte-preserved c =
    let letters = c.args.letters.now in
    let i = c.loop-byte.byte-index in
    let more : letter_bits (take i letters) ++ letter_bits (get_or letters i 0 ∷ []) ≡ letter_bits (take (i + 1) letters) =
    sym (letter_bits-push (take i letters) (get_or letters i 0)) ∙ ap letter_bits (sym (take_more letters i 0 (omega arith))) in
    let P : List ℕ → Type 0 = λ t. Gathers c.add.new.bits t in
    (subst P more (c.add.ensures.gathers (letter_bits (take i letters)) c.loop-byte.invariant.0), omega (arith, c.add.ensures.count, c.loop-byte.invariant.1))
