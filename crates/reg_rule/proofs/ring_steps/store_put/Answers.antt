use Rattle.std.proofs.Common.{◌≡◌, ap, ◌∙◌, sym, subst, arith}
use Rattle.atomic_table.specs.Seated.{TableId}
use Rattle.reg_rule.specs.declared.view.Key.{Key}
use Rattle.reg_rule.specs.declared.view.View.{View}
use Rattle.reg_rule.specs.Conditions.{MayStorePut}
use Rattle.reg_rule.proofs.StoresPut.{stores_put}
use Rattle.reg_rule.proofs.ring_steps.store_put.Goals as goal

pub store-requires : goal.store-requires
store-requires c =
    let wv = c.words.view_is in let pv = c.pass.view_is in let count = c.words.invariant.0 in
    let key : Key = c.words.inside.table.shared.key in let v : View = c.pass.inside.seat.me.0 in
    let same : v.key ≡ key = ap (λ (z : TableId × View). z.1.key) pv ∙ (c.requires.own.1 ∙ sym (ap (λ (z : TableId × Key). z.1) wv)) in
    let may : MayStorePut c.args.new v = subst (λ (z : TableId × View). MayStorePut c.args.new z.1) (sym pv) c.requires.may in (
      ap (λ (z : TableId × View). z.0) pv ∙ (c.requires.own.0 ∙ sym (ap (λ (z : TableId × Key). z.0) wv)),
      omega arith,
      stores_put key _ _ _ c.args.new may same,
    )
