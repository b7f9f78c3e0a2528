use Rattle.std.proofs.Common.{inl, ap, ◌∙◌, subst, arith}
use Rattle.std.specs.Option.{option_map}
use Rattle.std.specs.Prelude.{All}
use Rattle.reg_model.specs.declared.desk.CloseWhy.TheVariants.{Missing}
use Rattle.reg_model.specs.Rows.{all_rows}
use Rattle.reg_model.specs.Desks.{accounts_of, Closes}
use Rattle.reg_turn.specs.declared.view.Key.{Key}
use Rattle.reg_turn.specs.Turns.{TurnView}
use Rattle.reg_turn.specs.PlainRows.{IsPlainRow}
use Rattle.reg_turn.specs.inner.OneTurn.{at_log}
use Rattle.reg_turn.specs.inner.Steps.{sealed_accounts}
use Rattle.reg_turn.proofs.SeatSteps.{seals}
use Rattle.reg_turn.proofs.Closing.{views, refusal_of, came_out, sealed, closes, closes_plain}
use Rattle.reg_turn.proofs.desk.TurnDeskDesk.close.Goals as goal

pub returns-in-Some-clause-cause : goal.returns-in-Some-clause-cause
returns-in-Some-clause-cause c =
    inl (refusal_of c.self.inside.callers c.args.self.limits.callers _ c.args.passes.items c.missing.result c.missing.ensures c.deref.ensures.value
    (c.self.invariant.2 ∙ ap (λ (d : TurnView). d.limits.callers) c.self.view_is) ∙ ap (option_map Missing) c.in-Some.is)

pub split_seat-requires : goal.split_seat-requires
split_seat-requires c = (c.gather-seat.ensures.table, omega (arith, c.self.invariant.0), seals _ _ _)

pub unreachable-requires : goal.unreachable-requires
unreachable-requires c =
    let out = came_out c.self.inside.table.shared.key _ c.gather-seat.result.me _ (views c.args.passes.items) _ _ c.take-slot.result c.gather-seat.ensures.gathered c.split_seat.ensures.2
    (refusal_of c.self.inside.callers c.self.inside.table.shared.key.sizes.callers _ c.args.passes.items c.missing.result c.missing.ensures c.deref.ensures.value c.self.invariant.2 ∙ ap (option_map Missing) c.in_default.is)
    c.close_with-closed.ensures.values.2 c.take-slot.ensures.value in
    c.in_default-slot.not-Some (at_log c.self.inside.table.shared.key out.log) out.is

-- the round has ended, and its rows are the plain registry's
ended_so : (c : goal.After-ended) → Closes c.args.self.limits c.args.self.opening c.ended.result (sealed_accounts c.into_badge-badge.result.views)
    × All (IsPlainRow c.args.self.limits c.args.self.opening c.ended.result.log) (all_rows (sealed_accounts c.into_badge-badge.result.views))
ended_so c =
    let key : Key = c.self.inside.table.shared.key in
    let passes = views c.args.passes.items in
    let out = came_out key _ c.gather-seat.result.me _ passes _ _ c.take-slot.result c.gather-seat.ensures.gathered c.split_seat.ensures.2
    (refusal_of c.self.inside.callers key.sizes.callers _ c.args.passes.items c.missing.result c.missing.ensures c.deref.ensures.value c.self.invariant.2 ∙ ap (option_map Missing) c.in_default.is)
    c.close_with-closed.ensures.values.2 c.take-slot.ensures.value in
    let kept = sealed key c.gather-seat.result.me _ passes _ c.gather-seat.ensures.gathered c.split_seat.ensures.4 c.into_badge-badge.ensures.2 in
    subst (λ (d : TurnView). Closes d.limits d.opening c.ended.result (sealed_accounts c.into_badge-badge.result.views)
    × All (IsPlainRow d.limits d.opening c.ended.result.log) (all_rows (sealed_accounts c.into_badge-badge.result.views))) c.self.view_is (
      closes key passes c.take-slot.result c.in-Some-slot.plain c.ended.result _ out c.in-Some-slot.is c.ended.ensures.log c.ended.ensures.base c.ended.ensures.carried kept,
      closes_plain key passes c.take-slot.result c.in-Some-slot.plain c.ended.result _ out c.in-Some-slot.is c.ended.ensures.log c.ended.ensures.base c.ended.ensures.carried kept,
    )

pub returns-clause-closed : goal.returns-clause-closed
returns-clause-closed c = let both = ended_so c in both.0

pub returns-clause-plain : goal.returns-clause-plain
returns-clause-plain c = let both = ended_so c in both.1

pub returns-clause-seal : goal.returns-clause-seal
returns-clause-seal c =
    sealed c.self.inside.table.shared.key c.gather-seat.result.me _ (views c.args.passes.items) _ c.gather-seat.ensures.gathered c.split_seat.ensures.4 c.into_badge-badge.ensures.2
    ∙ ap (λ (d : TurnView). accounts_of d.limits.callers (views c.args.passes.items)) c.self.view_is

pub returns-clause-cause : goal.returns-clause-cause
returns-clause-cause c =
    refusal_of c.self.inside.callers c.args.self.limits.callers _ c.args.passes.items c.missing.result c.missing.ensures c.deref.ensures.value
    (c.self.invariant.2 ∙ ap (λ (d : TurnView). d.limits.callers) c.self.view_is) ∙ ap (option_map Missing) c.in_default.is
