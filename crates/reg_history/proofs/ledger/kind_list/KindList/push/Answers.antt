use Rattle.std.proofs.Common.{◌≡◌, ◌<◌, ◌++◌, ◌∷◌, [], refl, sym, ◌∙◌, ap, ap₂, subst}
use Rattle.std.specs.Prelude.{All}
use Rattle.reg_model.specs.declared.update.Declared.{Declared}
use Rattle.reg_history.specs.inner.LiveSets.{live_in}
use Rattle.reg_history.proofs.ledger.LiveEntries.{pushed_entry, entries_pushed}
use Rattle.reg_history.proofs.ledger.kind_list.KindList.push.Goals as goal

pub invariant_of-self-2 : goal.invariant_of-self-2
invariant_of-self-2 c =
    let kept = c.keep_below-self-inside in
    let lower = subst (All (λ (e : Declared). e.id < c.args.declared.id)) (sym c.self.view_is) c.requires.ids in
    rw (c.in_ok-push_entry.ensures.marks, c.in_ok-push_entry.ensures.bodies) (entries_pushed _ _ _ _ _ kept.ensures.entries (kept.ensures.below c.self.inside.kind lower) refl)

pub returns-clause-ok : goal.returns-clause-ok
returns-clause-ok c =
    let kept = c.keep_below-self-inside in
    let kind = c.self.inside.kind in
    let unit = c.args.declared.unit in
    let same = kept.ensures.live kind ∙ c.self.view_is in
    ap₂ (live_in unit.kind) c.in_ok-push_entry.ensures.marks c.in_ok-push_entry.ensures.bodies
    ∙ pushed_entry kind unit.kind c.args.declared.id unit.body kept.new.marks.items kept.new.bodies.items kept.ensures.entries.long
    (subst (All (λ (e : Declared). e.unit.kind ≡ unit.kind)) (sym same) c.requires.kinds)
    ∙ ap (λ ds. ds ++ c.args.declared ∷ []) same
