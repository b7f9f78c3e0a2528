use Rattle.std.proofs.Common.{◌≡◌, true, sym, ◌∙◌, ap, arith}
use Rattle.std.specs.Prelude.{not}
use Rattle.std.proofs.lemmas.List.Elements.{All-more}
use Rattle.iscc_text.specs.Texts.{is_blank}
use Rattle.reg_requests.proofs.words.word_len.Goals as goal

pub loop-i-preserved : goal.loop-i-preserved
loop-i-preserved c =
    All-more (λ b. not (is_blank b) ≡ true) c.args.text.now c.loop-i.i 0 (omega arith) c.loop-i.invariant (ap not (sym c.blank.ensures ∙ c.if-blank.false))
