use Rattle.std.proofs.Common.{◌≡◌, ap, sym, ◌∙◌}
use Rattle.atomic_table.specs.Seated.{TableId}
use Rattle.reg_rule.specs.declared.view.View.{View}
use Rattle.reg_rule.specs.inner.Trials.{ready}
use Rattle.reg_rule.proofs.TrialsHelped.{may_be_late, is_late}
use Rattle.reg_rule.proofs.tests.entering.is_late.Goals as goal

pub swap_log-requires-clause-may : goal.swap_log-requires-clause-may
swap_log-requires-clause-may c =
    may_be_late _ _ _ c.in_ok-meta.ensures c.in_ok-meta_word.ensures (ap (λ (z : TableId × View). z.1) c.requires.ready)

pub returns : goal.returns
returns c =
    let swapped = c.swap_log.ensures in
    let late = is_late _ _ _ _ (ap (λ (z : TableId × View). z.1) c.requires.ready) swapped.told c.if-swap_log-ne1.false in
    (late.0, λ x. (swapped.own.0 x, late.1 x))
