use Rattle.std.proofs.Common.{◌≡◌, true, sym, ◌∙◌, arith}
use Rattle.std.proofs.lemmas.List.Elements.{All-more}
use Rattle.iscc_text.specs.Texts.{is_allowed}
use Rattle.iscc_text.proofs.read.letters_in_front.Goals as goal

pub loop-i-preserved : goal.loop-i-preserved
loop-i-preserved c =
    All-more (λ b. is_allowed b ≡ true) c.args.text.now c.loop-i.i 0 (omega arith) c.loop-i.invariant (sym c.allows.ensures ∙ c.if-not-allows.false)
