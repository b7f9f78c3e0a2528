use Rattle.std.proofs.Common.{ap}
use Rattle.atomic_table.specs.Seated.{TableId}
use Rattle.reg_rule.specs.declared.view.View.{View}
use Rattle.reg_rule.proofs.TrialsSwept.{may_withdraw}
use Rattle.reg_rule.proofs.tests.unlinking.withdraws.Goals as goal

pub swap_log-requires-clause-may : goal.swap_log-requires-clause-may
swap_log-requires-clause-may c = may_withdraw _ _ (ap (λ (z : TableId × View). z.1) c.requires.live) c.pack-word.ensures
