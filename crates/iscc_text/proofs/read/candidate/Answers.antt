use Rattle.std.proofs.Common.{◌≡◌, ◌/◌, ◌%◌, ◌^◌, ◌∙◌, ap, drop, length, arith}
use Rattle.std.proofs.lemmas.Bool.{true≢false}
use Rattle.iscc_text.specs.UnitText.{unit_text}
use Rattle.iscc_text.specs.inner.Letters.{number_after}
use Rattle.iscc_text.proofs.LettersBack.{length-unit_text, text_number, unit_number, unit_number-parts}
use Rattle.iscc_text.proofs.read.candidate.Goals as goal

pub returns-in_err-letters : goal.returns-in_err-letters
unfolding unit_text
returns-in_err-letters c = λ unit h text. absurd (true≢false (rw (c.as_bytes.ensures.value, text) at c.in_err-letters.ensures.cases))

pub returns-then-letters-ne-LETTERS : goal.returns-then-letters-ne-LETTERS
returns-then-letters-ne-LETTERS c = λ unit h text.
    absurd (c.if-letters-ne-LETTERS.true (omega (arith, c.in_ok-letters.ensures.cases.2, ap length c.as_bytes.ensures.value, ap length text, length-unit_text unit h)))

pub returns : goal.returns
unfolding unit_text
returns c = λ unit h text.
    let letters = c.in_ok-letters.ensures.cases.1 ∙ ap (λ scheme. drop (length scheme) c.args.text.now) c.as_bytes.ensures.value in
    let number : c.number_of-number.result ≡ unit_number unit =
    c.number_of-number.ensures ∙ ap (number_after 0) letters ∙ ap (λ t. number_after 0 (drop 5 t)) text ∙ text_number unit h in
    let parts = unit_number-parts unit h in
    c.unit_of.ensures unit h (ap (λ n. n / 2 ^ 64 % 65536) number ∙ parts.0) (ap (λ n. n % 2 ^ 64) number ∙ parts.1)
