use Rattle.std.proofs.Common.{◌≡◌, ◌<◌, ◌≤◌, ◌%◌, ap, ◌∙◌, sym, subst, arith}
use Rattle.atomic_table.specs.Seated.{TableId}
use Rattle.reg_model.specs.Limits.{Limits}
use Rattle.reg_words.specs.Memory.{GIVE, start}
use Rattle.reg_words.proofs.Memory.{inside}
use Rattle.reg_rule.specs.declared.view.Key.{Key}
use Rattle.reg_rule.specs.declared.view.View.{View}
use Rattle.reg_rule.specs.Conditions.{MayGive}
use Rattle.reg_rule.specs.inner.Rule.{sizes}
use Rattle.reg_rule.proofs.LoadsGive.{give_inside}
use Rattle.reg_rule.proofs.StoresGive.{stores_give_at}
use Rattle.reg_rule.proofs.ring_steps.store_give.Goals as goal

pub store-requires : goal.store-requires
store-requires c =
    let wv = c.words.view_is in let pv = c.pass.view_is in let wi = c.words.invariant in let pi = c.pass.invariant in let at = c.give_at-at.ensures in
    let key : Key = c.words.inside.table.shared.key in let v : View = c.pass.inside.seat.me.0 in
    let same : v.key ≡ key = ap (λ (z : TableId × View). z.1.key) pv ∙ (c.requires.own.1 ∙ sym (ap (λ (z : TableId × Key). z.1) wv)) in
    let may : MayGive c.args.place c.args.new v = subst (λ (z : TableId × View). MayGive c.args.place c.args.new z.1) (sym pv) c.requires.may in
    let most = c.entries-entries.ensures in let least : 1 ≤ c.words.inside.sizes.entries = most.range.entries.0 in let one : 0 < key.entries = let a : c.words.inside.sizes.entries ≡ key.sizes.entries = ap (λ (z : Limits). z.entries) wi.2 in let b : key.entries ≡ key.sizes.entries = wi.3 in omega arith in
    let low : c.args.place < key.entries = give_inside key may.1 c.args.place one (subst (λ (z : Key). c.args.place ≡ may.1 % z.entries) same may.7) in
    let here : start (sizes key) GIVE ≡ start (sizes c.args.words.now.1) GIVE = ap (λ (z : TableId × Key). start (sizes z.1) GIVE) wv in (
      ap (λ (z : TableId × View). z.0) pv ∙ (c.requires.own.0 ∙ sym (ap (λ (z : TableId × Key). z.0) wv)),
      (let room = inside (sizes key) GIVE c.args.place low in let count = wi.0 in omega arith),
      stores_give_at key _ _ _ c.args.place c.args.new _ (omega arith) may same one,
    )
