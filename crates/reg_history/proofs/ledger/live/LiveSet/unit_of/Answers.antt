use Rattle.std.proofs.Common.{◌≡◌, find, None, sym, ◌∙◌, subst}
use Rattle.std.specs.Prelude.{All}
use Rattle.std.proofs.lemmas.List.{take_all}
use Rattle.std.proofs.lemmas.List.Elements.{All-more}
use Rattle.reg_model.proofs.Rising.{has_id}
use Rattle.reg_history.specs.inner.LiveSets.{AreByKind}
use Rattle.reg_history.proofs.ledger.ByKind.{found_at, not_found}
use Rattle.reg_history.proofs.ledger.live.LiveSet.unit_of.Goals as goal

pub returns-in-Some-clause-found : goal.returns-in-Some-clause-found
returns-in-Some-clause-found c = λ live by rising.
    found_at c.deref-list-items.result.now live (subst (λ kinds. AreByKind kinds live) (sym (c.deref-list-items.ensures.value ∙ c.self.view_is)) by) rising
    c.args.id c.loop-list.list-index c.list-item.result _ c.loop-list-test.true c.list-item.is c.in-Some.ensures.found

pub loop-list-preserved : goal.loop-list-preserved
loop-list-preserved c =
    All-more (λ ds. find (has_id c.args.id) ds ≡ None) c.deref-list-items.result.now c.loop-list.list-index c.list-item.result c.loop-list-test.true c.loop-list.invariant
    (subst (λ ds. find (has_id c.args.id) ds ≡ None) c.list-item.is c.in_default.ensures.none)

pub returns-clause-none : goal.returns-clause-none
returns-clause-none c = λ live by rising.
    not_found c.deref-list-items.result.now live (subst (λ kinds. AreByKind kinds live) (sym (c.deref-list-items.ensures.value ∙ c.self.view_is)) by) c.args.id
    (subst (All (λ ds. find (has_id c.args.id) ds ≡ None)) (take_all c.loop-list.list-index c.deref-list-items.result.now c.loop-list-test.false) c.loop-list.invariant)
