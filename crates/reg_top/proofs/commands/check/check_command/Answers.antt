use Rattle.std.proofs.Common.{[], refl}
use Rattle.reg_top.specs.Fetches.Command.{Check}
use Rattle.reg_top.proofs.Forms.{no_check}
use Rattle.reg_top.proofs.Endings.{words_outcome, command_outcome}
use Rattle.reg_top.proofs.commands.check.check_command.Goals as goal

pub returns-in-None : goal.returns-in-None
returns-in-None g c =
    rw c.no_form.ensures.status (words_outcome c.args.words.now _ _ [] (no_check c.args.words.now c.requires c.in-None.ensures.none) refl c.no_form.ensures.told)

pub returns-in-Some : goal.returns-in-Some
returns-in-Some g c =
    rw c.number.ensures (command_outcome c.args.words.now (Check c.in-Some.name.now) _ _ [] c.check_file.result c.in-Some.ensures.found c.check_file.ensures)
