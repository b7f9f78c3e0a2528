use Rattle.std.proofs.Common.{rules, ◌<◌, length, ap, ◌∙◌, sym, subst}
use Rattle.reg_turn.specs.inner.Steps.{Sat}
use Rattle.reg_turn.proofs.TurnSteps.{takes_turn, held_first}
use Rattle.reg_turn.proofs.desk.take.Goals as goal

pub compare_exchange-requires : goal.compare_exchange-requires
compare_exchange-requires g c = (
  search rules,
  search rules,
  takes_turn c.args.table.now.shared.key _ _ _ (search rules) (ap (λ (z : Sat). z.0.live) c.loop.invariant.3 ∙ c.requires.seat.0) (ap (λ (z : Sat). z.1) c.loop.invariant.3 ∙ c.requires.seat.1)
      (subst (λ (z : Sat). 0 < length z.0.accounts) (sym c.loop.invariant.3) c.requires.seat.2),
)

pub exchange-requires : goal.exchange-requires
exchange-requires g c =
    let t = c.compare_exchange.ensures.2.0 c.if-compare_exchange-eq0.true in
    (search rules, (_, held_first _ 0 _ (ap (λ (z : Sat). z.1) t.1)))
