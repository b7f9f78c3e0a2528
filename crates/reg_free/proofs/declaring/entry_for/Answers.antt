use Rattle.std.proofs.Common.{rules, ◌≡◌, ◌<◌}
use Rattle.reg_commit.specs.Takes.{FoundEmpty}
use Rattle.reg_rule.specs.Passes.{number_of}
use Rattle.reg_free.proofs.Emptied.{empty_again, none_again}
use Rattle.reg_free.proofs.declaring.entry_for.Goals as goal

pub returns-clause-none : goal.returns-clause-none
returns-clause-none c =
    let whole : c.log.result ≡ c.args.pass.now.1.key.sizes.log = search rules in
    let first : FoundEmpty c.args.pass.now.1 c.in_default.field-0.taken c.take.new.pass.1 = c.in_default.ensures.empty in
    let number : number_of c.take.new.pass.1 < c.take.new.pass.1.key.sizes.callers = search rules in
    none_again c.take-2.result c.sweep.new.pass.1 c.take-2.new.pass.1 c.args.pass.now.1 c.take-2.ensures.empty (λ taken last. empty_again c.log.result c.in_default.field-0.taken taken c.args.pass.now.1 c.take.new.pass.1 c.sweep.new.pass.1 c.take-2.new.pass.1 c.sweep.result c.requires.seen c.requires.none c.requires.free c.requires.alone whole first number c.sweep.ensures.held c.sweep.ensures.swept last)
