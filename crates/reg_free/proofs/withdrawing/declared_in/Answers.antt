use Rattle.std.proofs.Common.{◌≡◌, ◌≤◌, ℕ, ◌+◌, ◌-◌, ◌<◌, length, IfSome, IfNone, ap, sym, subst, arith}
use Rattle.iscc_header.specs.declared.unit.Unit64.{Unit64}
use Rattle.reg_model.specs.Opening.{Opening}
use Rattle.reg_rule.specs.declared.view.Key.{Key}
use Rattle.reg_rule.specs.declared.view.Place.{Place}
use Rattle.reg_rule.specs.declared.view.View.{View}
use Rattle.reg_rule.specs.Log.{At, record_at}
use Rattle.reg_free.proofs.Finding.{carried_there, above, placed}
use Rattle.reg_free.proofs.withdrawing.declared_in.Goals as goal

pub returns-then-id-base-clause-entry : goal.returns-then-id-base-clause-entry
returns-then-id-base-clause-entry c =
    let v : View = c.args.pass.now.1 in let at = c.requires.at in let key = at.ready.own.1 in let found = c.carried_entry.result in
    let base = c.base-base.ensures in let carried = ap (λ (o : Opening). o.base) c.carried.ensures.carried in let own = ap (λ (z : Key). z.carried.base) key in let low = c.if-id-base.true in
    carried_there v c.args.place c.args.id at.opening (omega arith) found
    (subst (λ (z : Key). length z.carried.list ≤ z.entries) (sym key) c.carried.ensures.room)
    (subst (λ (z : Key). IfSome found (λ entry. (unit : Unit64) × At z.carried.list entry (record { id = c.args.id; unit = unit }))) (sym key) c.carried_entry.ensures.found)
    (subst (λ (z : Key). IfNone found ((unit : Unit64) (entry : ℕ) → At z.carried.list entry (record { id = c.args.id; unit = unit }) → ⊥)) (sym key) c.carried_entry.ensures.none)

pub returns-then-id-base-2-clause-entry : goal.returns-then-id-base-2-clause-entry
returns-then-id-base-2-clause-entry c =
    let v : View = c.args.pass.now.1 in let at = c.requires.at in
    let base = c.base-base.ensures in let carried = ap (λ (o : Opening). o.base) c.carried.ensures.carried in let own = ap (λ (z : Key). z.carried.base) at.ready.own.1 in
    let first = c.if-id-base.false in let high = c.if-id-base-2.true in let last = at.last in
    above v c.args.place c.args.id at.opening (omega arith) (omega arith)

pub returns-clause-entry : goal.returns-clause-entry
returns-clause-entry c =
    let v : View = c.args.pass.now.1 in let at = c.requires.at in let k : ℕ = c.args.place in let n : ℕ = c.args.id - c.base-base.result in
    let base = c.base-base.ensures in let carried = ap (λ (o : Opening). o.base) c.carried.ensures.carried in let own = ap (λ (z : Key). z.carried.base) at.ready.own.1 in
    let first = c.if-id-base.false in let high = c.if-id-base-2.false in let last = at.last in
    let low : n < k = omega arith in let is : c.args.id ≡ v.key.carried.base + n = omega arith in
    let l = c.load_log.ensures.told in let o = l.old (omega arith) in let p : Place = o.0 in
    placed v k c.args.id at.opening n p low is o.1 (at.seen.entries n p o.1) c.record_entry.result
    (c.record_entry.ensures (record_at v.key.carried.base n p.update p.entry) (at.seen.records n p o.1) (sym o.2))
