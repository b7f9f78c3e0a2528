use Rattle.std.proofs.Common.{sym, ◌∙◌}
use Rattle.reg_rule.proofs.Trials.{held_word}
use Rattle.reg_rule.proofs.tests.sweeping.finds_held.Goals as goal

pub returns : goal.returns
returns c =
    let called = c.swap_sweep.ensures in let told = called.told in
    let held = told.held (held_word told.word (sym told.word_is ∙ c.if-swap_sweep-ne1.false)) in
    λ x. (called.own.0 x, held.0 x)
