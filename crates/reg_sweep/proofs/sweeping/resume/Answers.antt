use Rattle.std.proofs.lemmas.Option.{IfSome_then}
use Rattle.reg_sweep.proofs.Resumes.{none_then, resumed, stopped_again}
use Rattle.reg_sweep.proofs.sweeping.resume.Goals as goal

pub returns-in-Some-Wd-clause-given : goal.returns-in-Some-Wd-clause-given
returns-in-Some-Wd-clause-given c =
    let w = c.requires.waits in
    none_then c.give_back.result c.give_back.ensures.given
    (resumed c.args.word.now.place c.args.word.now.mark w.0 w.1 c.args.pass.now.1 c.load_log.new.pass.1 c.load_log.result w.2 c.load_log.ensures.told c.give_back.new.pass.1)

pub returns-in-Some-Wd-clause-stopped : goal.returns-in-Some-Wd-clause-stopped
returns-in-Some-Wd-clause-stopped c =
    let w = c.requires.waits in
    IfSome_then c.give_back.result c.give_back.ensures.stopped
    (λ why. stopped_again c.args.word.now.place c.args.word.now.mark w.0 w.1 c.args.pass.now.1 c.load_log.new.pass.1 c.load_log.result w.2 c.load_log.ensures.told why c.give_back.new.pass.1)
