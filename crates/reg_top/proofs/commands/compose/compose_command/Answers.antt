use Rattle.std.proofs.Common.{[], drop, refl}
use Rattle.reg_top.specs.Fetches.Command.{Compose}
use Rattle.reg_top.proofs.Forms.{no_compose, compose_form}
use Rattle.reg_top.proofs.Endings.{words_outcome, command_outcome}
use Rattle.reg_top.proofs.commands.compose.compose_command.Goals as goal

pub returns-then-not-has_texts : goal.returns-then-not-has_texts
returns-then-not-has_texts g c = λ shelf.
    rw c.no_form.ensures.status
    (words_outcome c.args.words.now _ _ [] (no_compose c.args.words.now c.requires (λ are. absurd (let so = c.has_texts.ensures.1 are in cc))) refl c.no_form.ensures.told)

pub returns : goal.returns
returns g c = λ shelf.
    let words = c.args.words.now in
    rw c.number.ensures
    (command_outcome words (Compose (drop 1 words)) _ _ [] c.compose_texts.result (compose_form words c.requires (c.has_texts.ensures.0 c.if-not-has_texts.false)) (c.compose_texts.ensures shelf))
