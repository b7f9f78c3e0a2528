use Rattle.std.proofs.Common.{◌+◌, ◌<◌, sym, ◌∙◌, ap, subst}
use Rattle.reg_history.specs.inner.Ledgers.{point_of, Keeps, MayAdd}
use Rattle.reg_history.proofs.ledger.LedgerSteps.{declares, withdraws_one, below_next, keeps_declare, keeps_withdraw}
use Rattle.reg_history.proofs.ledger.ByKind.{kinds_agree}
use Rattle.reg_history.proofs.ledger.Ledger.add.Goals as goal

pub push-requires-clause-kinds : goal.push-requires-clause-kinds
push-requires-clause-kinds c = kinds_agree _ _ c.self.invariant.by_kind c.in-Decl.unit.kind

pub push-requires-clause-ids : goal.push-requires-clause-ids
push-requires-clause-ids c = below_next _ c.in-Decl.unit.kind c.point-id.result c.self.invariant (c.point-id.ensures.value ∙ ap point_of (sym c.self.view_is))

pub invariant_of-self-in-Decl : goal.invariant_of-self-in-Decl
invariant_of-self-in-Decl c =
    declares _ c.push.new.self c.in-Decl.unit c.point-id.result c.self.invariant (subst (λ p. p.declared + p.withdrawn < p.limits.log) (sym c.self.view_is) c.requires)
    (c.point-id.ensures.value ∙ ap point_of (sym c.self.view_is)) c.in_ok-push-in-Decl.ensures.ok

pub invariant_of-self-in-Wd : goal.invariant_of-self-in-Wd
invariant_of-self-in-Wd c = withdraws_one _ c.withdraw.new.self c.in-Wd.id c.self.invariant (subst (λ p. p.declared + p.withdrawn < p.limits.log) (sym c.self.view_is) c.requires) c.withdraw.ensures.left

pub returns-in_ok-push-in-Decl : goal.returns-in_ok-push-in-Decl
returns-in_ok-push-in-Decl c = λ r keeps may.
    rw c.in-Decl.is
    (keeps_declare _ r c.push.new.self c.in-Decl.unit c.point-id.result (subst (λ p. Keeps p r) (sym c.self.view_is) keeps) (subst (MayAdd r) c.in-Decl.is may)
    (c.point-id.ensures.value ∙ ap point_of (sym c.self.view_is)) c.in_ok-push-in-Decl.ensures.ok)

pub returns-in-Wd : goal.returns-in-Wd
returns-in-Wd c = λ r keeps may.
    rw c.in-Wd.is (keeps_withdraw _ r c.withdraw.new.self c.in-Wd.id (subst (λ p. Keeps p r) (sym c.self.view_is) keeps) (subst (MayAdd r) c.in-Wd.is may) c.withdraw.ensures.left)
