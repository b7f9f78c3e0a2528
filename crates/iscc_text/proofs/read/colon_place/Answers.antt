use Rattle.std.proofs.Common.{◌≡◌, true, get_or, ap, arith}
use Rattle.std.specs.Prelude.{not}
use Rattle.std.proofs.lemmas.Bool.{ne_eqb}
use Rattle.std.proofs.lemmas.List.Elements.{All-more}
use Rattle.iscc_text.specs.Texts.{is_no_colon}
use Rattle.iscc_text.proofs.read.colon_place.Goals as goal

pub loop-i-preserved : goal.loop-i-preserved
loop-i-preserved c =
    All-more (λ b. is_no_colon b ≡ true) c.args.core.now c.loop-i.i 0 (omega arith) c.loop-i.invariant (ap not (ne_eqb (get_or c.args.core.now c.loop-i.i 0) 58 c.if-core-i-eq58.false))
