use Rattle.std.proofs.Common.{◌≡◌, true, length, sym, ◌∙◌, ap, arith}
use Rattle.std.proofs.lemmas.List.{get_or_past}
use Rattle.std.proofs.lemmas.List.Elements.{All-more}
use Rattle.iscc_text.specs.Texts.{is_blank}
use Rattle.iscc_text.proofs.read.blanks_in_front.Goals as goal

pub loop-i-preserved : goal.loop-i-preserved
loop-i-preserved c =
    All-more (λ b. is_blank b ≡ true) c.args.text.now c.loop-i.i 0 (omega arith) c.loop-i.invariant (sym c.blank.ensures ∙ c.if-not-blank.false)

pub returns-clause-first : goal.returns-clause-first
unfolding is_blank
returns-clause-first c = ap is_blank (get_or_past c.args.text.now (length c.args.text.now) 0 (omega arith))
