use Rattle.std.proofs.Common.{[], refl}
use Rattle.reg_top.specs.Fetches.Command.{Explain}
use Rattle.reg_top.proofs.Forms.{no_explain}
use Rattle.reg_top.proofs.Endings.{words_outcome, command_outcome}
use Rattle.reg_top.proofs.commands.explain.explain_command.Goals as goal

pub returns-in-None : goal.returns-in-None
returns-in-None g c = λ shelf.
    rw c.no_form.ensures.status (words_outcome c.args.words.now _ _ [] (no_explain c.args.words.now c.requires c.in-None.ensures.none) refl c.no_form.ensures.told)

pub returns-in-Some : goal.returns-in-Some
returns-in-Some g c = λ shelf.
    rw c.number.ensures (command_outcome c.args.words.now (Explain c.in-Some.text.now) _ _ [] c.explain_text.result c.in-Some.ensures.found (c.explain_text.ensures shelf))
