use Rattle.std.proofs.Common.{length, sym, ◌∙◌, ap, subst, arith}
use Rattle.std.proofs.lemmas.List.{length-map}
use Rattle.reg_model.proofs.Rising.{without}
use Rattle.reg_history.specs.inner.LiveSets.{AreByKind}
use Rattle.reg_history.proofs.ledger.ByKind.{has-any, by_kind-without, written_back}
use Rattle.reg_history.proofs.ledger.live.LiveSet.withdraw.Goals as goal

pub returns-clause-was : goal.returns-clause-was
returns-clause-was c = λ live by.
    c.withdraw_each.ensures.was ∙ has-any c.deref_mut.result.now live (subst (λ kinds. AreByKind kinds live) (sym (c.deref_mut.ensures.value ∙ c.self.view_is)) by) c.args.id

pub returns-clause-left : goal.returns-clause-left
returns-clause-left c = λ live by rising.
    let kinds = c.self.inside.kinds in
    let here = c.deref_mut.result.now in
    let long = ap length c.withdraw_each.ensures.left ∙ length-map here (without c.args.id) ∙ ap length c.deref_mut.ensures.value in
    let after = by_kind-without here live (subst (λ ks. AreByKind ks live) (sym (c.deref_mut.ensures.value ∙ c.self.view_is)) by) c.args.id in
    subst (λ ks. AreByKind ks (without c.args.id live)) (sym (written_back kinds.len c.withdraw_each.new.lists kinds.items (omega (arith, kinds.ok.0)) long ∙ c.withdraw_each.ensures.left)) after
