use Rattle.std.proofs.Common.{[], refl}
use Rattle.reg_top.specs.Fetches.Command.{Instance}
use Rattle.reg_top.proofs.Forms.{no_instance}
use Rattle.reg_top.proofs.Endings.{words_outcome, command_outcome}
use Rattle.reg_top.proofs.commands.instance.instance_command.Goals as goal

pub returns-in-None : goal.returns-in-None
returns-in-None g c =
    rw c.no_form.ensures.status (words_outcome c.args.words.now _ _ [] (no_instance c.args.words.now c.requires c.in-None.ensures.none) refl c.no_form.ensures.told)

pub returns-in-Some : goal.returns-in-Some
returns-in-Some g c =
    rw c.number.ensures (command_outcome c.args.words.now (Instance c.in-Some.name.now) _ _ [] c.instance_file.result c.in-Some.ensures.found c.instance_file.ensures)
