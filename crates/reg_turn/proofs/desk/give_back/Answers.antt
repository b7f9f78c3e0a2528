use Rattle.std.proofs.Common.{rules, ◌≡◌, ℕ, List, [], ◌∷◌, ap, ◌∙◌, sym, subst, None, Some}
use Rattle.atomic_table.specs.Table.{rest}
use Rattle.reg_turn.specs.declared.view.View.{View}
use Rattle.reg_turn.specs.inner.OneTurn.{Slot}
use Rattle.reg_turn.specs.inner.Steps.{Sat, Gives}
use Rattle.reg_turn.proofs.TurnSteps.{gives_turn}
use Rattle.reg_turn.proofs.desk.give_back.Goals as goal

pub store-requires : goal.store-requires
store-requires c =
    let e = c.exchange.ensures in
    let view : c.exchange.new.seat.me.0 ≡ c.args.seat.now.me.0 = ap (λ (z : Sat). z.0) e.3 in
    let turn = c.requires.turn in
    let out : c.exchange.new.seat.me.1 ≡ (0, Some c.args.plain) ∷ [] = ap (λ (z : Sat). z.1) e.3 ∙ ap (λ (l : List (ℕ × Slot)). (0, Some c.args.plain) ∷ rest l) turn.slot in (
      e.0 ∙ c.requires.table.2,
      search rules,
      gives_turn c.args.table.now.shared.key _ c.exchange.new.seat.id c.exchange.new.seat.me c.args.plain None (search rules) out
          (ap (λ (v : View). v.live) view ∙ turn.live) (ap (λ (v : View). v.holds) view ∙ turn.holds)
          (subst (λ (v : View). Gives v c.args.plain None) (sym view) c.requires.kept),
    )
