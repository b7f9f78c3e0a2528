use Rattle.std.proofs.Common.{sym, ◌∙◌}
use Rattle.reg_rule.specs.declared.view.View.{View}
use Rattle.reg_rule.proofs.TrialsHelped.{found_birth}
use Rattle.reg_rule.proofs.tests.entering.finds_birth.Goals as goal

pub returns : goal.returns
returns c =
    let loaded = c.load_stamp.ensures in
    let view = found_birth c.args.entry c.args.id c.load_stamp.result c.args.pass.now.1 _ c.requires.small loaded.told
    (c.if-load_stamp-word.false ∙ (sym c.if-branch-word.false ∙ c.in_ok-birth_word.ensures)) in
    λ x. (loaded.own.0 x, view x)
