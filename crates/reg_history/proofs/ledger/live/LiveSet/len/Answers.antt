use Rattle.std.proofs.Common.{sym, ◌∙◌, subst}
use Rattle.reg_history.specs.inner.LiveSets.{AreByKind}
use Rattle.reg_history.proofs.ledger.ByKind.{sum_all}
use Rattle.reg_history.proofs.ledger.live.LiveSet.len.Goals as goal

pub returns : goal.returns
returns c = λ live by. c.total.ensures ∙ sum_all c.deref.result.now live (subst (λ kinds. AreByKind kinds live) (sym (c.deref.ensures.value ∙ c.self.view_is)) by)
