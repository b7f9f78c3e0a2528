use Rattle.std.proofs.Common.{sym, ◌∙◌, ap, subst, rules, arith}
use Rattle.reg_model.specs.Limits.{IsInRange}
use Rattle.reg_model.specs.Live.{live}
use Rattle.reg_history.specs.inner.Ledgers.{point_of, Keeps}
use Rattle.reg_history.proofs.ledger.LedgerSteps.{keeps_reopen, reopens}
use Rattle.reg_history.proofs.ledger.Ledger.reopen.Goals as goal

pub returns : goal.returns
returns c = λ r keeps room.
    let range : IsInRange c.args.sizes = search rules in
    let here = subst (λ p. Keeps p r) (sym c.self.view_is) keeps in
    keeps_reopen _ r c.args.sizes c.point-self-inside.result c.len-self-inside.result here range room (omega (arith, c.requires, c.point-self-inside.ensures.value))
    (c.point-self-inside.ensures.registry r keeps) (c.len-self-inside.ensures (live r.opening r.log) here.live)

pub invariant_of-self : goal.invariant_of-self
invariant_of-self c =
    let range : IsInRange c.args.sizes = search rules in
    reopens _ c.args.sizes c.point-self-inside.result c.len-self-inside.result c.self.invariant range (omega (arith, c.requires, c.point-self-inside.ensures.value))
    (c.point-self-inside.ensures.value ∙ ap point_of (sym c.self.view_is)) c.len-self-inside.ensures
