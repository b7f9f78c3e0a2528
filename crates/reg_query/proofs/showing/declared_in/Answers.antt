use Rattle.std.proofs.Common.{ℕ, ◌≡◌, ◌<◌, ◌+◌, ◌-◌, List, IfSome, IfNone, ap, sym, subst, arith}
use Rattle.iscc_header.specs.declared.unit.Unit64.{Unit64}
use Rattle.reg_model.specs.Opening.{Opening}
use Rattle.reg_rule.specs.declared.view.Key.{Key}
use Rattle.reg_rule.specs.declared.view.Place.{Place}
use Rattle.reg_rule.specs.declared.view.View.{View}
use Rattle.reg_rule.specs.Log.{At, record_at}
use Rattle.reg_query.proofs.Seeking.{sought_at}
use Rattle.reg_query.proofs.Shown.{placed, outside, declared_is, carried_inside}
use Rattle.reg_query.proofs.showing.declared_in.Goals.{else-id-base-via-then-id-base+else-id-base-2, else-id-base-via-else-id-base}
use Rattle.reg_query.proofs.showing.declared_in.Goals as goal

pub returns-then-id-base-2-clause-entry : goal.returns-then-id-base-2-clause-entry
returns-then-id-base-2-clause-entry c =
    let v : View = c.args.pass.now.1 in let k : ℕ = c.args.place in let n : ℕ = c.args.id - c.base-base.result in
    let base = c.base-base.ensures in let carried = ap (λ (o : Opening). o.base) c.carried.ensures.carried in let own = ap (λ (z : Key). z.carried.base) c.requires.own.1 in
    let inside = c.requires.opens.inside in let first = c.if-id-base.true in let last = c.if-id-base-2.true in
    let low : n < k = omega arith in let is : c.args.id ≡ v.key.carried.base + n = omega arith in
    let l = c.load_log.ensures.told in let o = l.old (omega arith) in let p : Place = o.0 in
    let fits = l.seen.records n p (subst (λ (places : List Place). At places n p) (sym (ap (λ (z : View). z.log) o.3)) o.1) in
    declared_is v k c.args.id c.record_entry.result (placed v.key.carried v.log k c.args.id n p low is c.requires.opening o.1 c.record_entry.result (c.record_entry.ensures (record_at v.key.carried.base n p.update p.entry) fits (sym o.2)))

pub returns-clause-moved : goal.returns-clause-moved
returns-clause-moved c = sought_at c.args.pass.now.1 c.args.place c.args.id c.requires.opens.snapshot c.args.told.now c.requires.telling c.load_log-2.new.pass.1 0 c.load_log-2.result c.requires.opens.inside (omega arith) c.load_log-2.ensures.told

pub returns-clause-entry : goal.returns-clause-entry
returns-clause-entry c =
    let v : View = c.args.pass.now.1 in
    let base = c.base-base.ensures in let carried = ap (λ (o : Opening). o.base) c.carried.ensures.carried in let own = ap (λ (z : Key). z.carried.base) c.requires.own.1 in
    let known = c.requires.own.1 in
    declared_is v c.args.place c.args.id c.carried_entry.result (outside v.key.carried v.log c.args.place c.args.id c.requires.opening c.requires.opens.inside
    (λ first last. elim c.else-id-base.branch [ else-id-base-via-then-id-base+else-id-base-2 w ↦ (let a = w.if-id-base-2.false in omega arith) | else-id-base-via-else-id-base w ↦ (let a = w.if-id-base.false in omega arith) ])
    c.carried_entry.result
    (subst (λ (z : Key). IfSome c.carried_entry.result (λ entry. (unit : Unit64) × At z.carried.list entry (record { id = c.args.id; unit = unit }))) (sym known) c.carried_entry.ensures.found)
    (subst (λ (z : Key). IfNone c.carried_entry.result ((unit : Unit64) (entry : ℕ) → At z.carried.list entry (record { id = c.args.id; unit = unit }) → ⊥)) (sym known) c.carried_entry.ensures.none))

pub returns-clause-inside : goal.returns-clause-inside
returns-clause-inside c = subst (λ (z : Key). IfSome c.carried_entry.result (λ entry. entry < z.entries)) (sym c.requires.own.1) (carried_inside c.args.words.now.1.carried.list c.args.words.now.1.entries c.args.id c.carried_entry.result c.carried.ensures.room c.carried_entry.ensures.found)
