use Rattle.std.proofs.Common.{refl, sym, ◌∙◌, ap, subst, arith}
use Rattle.reg_model.specs.declared.call.Call.TheVariants.{Show}
use Rattle.reg_model.specs.Replies.{shown}
use Rattle.reg_model.specs.inner.Current.{IsCurrent}
use Rattle.reg_model.proofs.Rising.{at_inside}
use Rattle.reg_model.proofs.LiveSteps.{current_rising}
use Rattle.reg_model.proofs.PlainSteps.{serves_same, live_at_place}
use Rattle.reg_model.proofs.plain.Plain.show.Goals as goal

pub place_of-requires : goal.place_of-requires
place_of-requires c = rw c.deref.ensures.value (current_rising _ _ _ c.self.invariant.0)

pub index-requires : goal.index-requires
index-requires c = omega (arith, at_inside c.args.id c.in-Some.place c.self.inside.live.items (rw (← c.deref.ensures.value) c.in-Some.ensures.found))

pub returns-in-Some : goal.returns-in-Some
returns-in-Some c =
    let inside = c.self.inside in
    let current = subst (λ r. IsCurrent r inside.live.items inside.withdrawn) c.self.view_is c.self.invariant.0 in
    let live = live_at_place _ _ _ current c.args.id c.in-Some.place c.index.result.now (rw (← c.deref.ensures.value) c.in-Some.ensures.found) c.index.ensures in
    serves_same _ (Show c.args.id) _ refl (c.answer.ensures.reply ∙ ap (shown c.args.id) (sym live)) c.answer.ensures.point c.answer.ensures.within
