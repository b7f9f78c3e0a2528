use Rattle.std.proofs.Common.{◌≡◌, true, sym, ◌∙◌, arith}
use Rattle.std.proofs.lemmas.List.Elements.{All-more}
use Rattle.iscc_text.specs.Texts.{is_blank}
use Rattle.reg_requests.proofs.words.blanks_in_front.Goals as goal

pub loop-i-preserved : goal.loop-i-preserved
loop-i-preserved c =
    All-more (λ b. is_blank b ≡ true) c.args.text.now c.loop-i.i 0 (omega arith) c.loop-i.invariant (sym c.blank.ensures ∙ c.if-not-blank.false)
