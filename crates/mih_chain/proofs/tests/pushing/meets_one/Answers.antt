use Rattle.std.proofs.Common.{refl, ap}
use Rattle.reg_rule.specs.declared.view.View.{View}
use Rattle.mih_chain.proofs.tests.pushing.meets_one.Goals as goal

pub next-requires-clause-cursor : goal.next-requires-clause-cursor
next-requires-clause-cursor c = (_, ap (λ (z : View). z.cursor) (λ j. (c.in-Some.ensures.some.1 j).1), refl, refl)
