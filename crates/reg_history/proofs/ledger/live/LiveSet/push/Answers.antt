use Rattle.std.proofs.Common.{sym, subst}
use Rattle.std.proofs.lemmas.Result.{on_ok_weaker}
use Rattle.reg_history.specs.inner.LiveSets.{AreByKind}
use Rattle.reg_history.proofs.ledger.ByKind.{by_kind-push}
use Rattle.reg_history.proofs.ledger.live.LiveSet.push.Goals as goal

pub returns-clause-ok : goal.returns-clause-ok
returns-clause-ok c =
    on_ok_weaker c.push.result (λ pushed live by.
    rw c.number-kind.ensures.value
    (by_kind-push c.self.inside.kinds.items live (subst (λ kinds. AreByKind kinds live) (sym c.self.view_is) by) c.args.declared c.index_mut.result.now c.push.new.self c.number-kind.ensures.range
    (rw c.number-kind.ensures.value at c.index_mut.ensures.value) pushed)) c.push.ensures.ok
