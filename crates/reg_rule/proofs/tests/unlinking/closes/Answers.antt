use Rattle.std.proofs.Common.{ap}
use Rattle.atomic_table.specs.Seated.{TableId}
use Rattle.reg_rule.specs.declared.view.View.{View}
use Rattle.reg_rule.proofs.TrialsSwept.{may_close, closed_is}
use Rattle.reg_rule.proofs.tests.unlinking.closes.Goals as goal

pub store_pin-requires-clause-may : goal.store_pin-requires-clause-may
store_pin-requires-clause-may c = let o = c.requires.opened in may_close o.0 o.1 _ (ap (λ (z : TableId × View). z.1) o.2)

pub returns : goal.returns
returns c =
    let o = c.requires.opened in let called = c.store_pin.ensures in
    let view = closed_is o.0 o.1 _ _ (ap (λ (z : TableId × View). z.1) o.2) called.told in
    (o.0, o.1, λ x. (called.own.0 x, view x))
