use Rattle.std.proofs.Common.{◌≡◌, ◌<◌, ℕ, ap, ◌∙◌, sym, subst, arith}
use Rattle.atomic_table.specs.Seated.{TableId}
use Rattle.reg_words.specs.Memory.{PIN, start}
use Rattle.reg_words.proofs.Memory.{inside}
use Rattle.reg_rule.specs.declared.told.Told.{Told}
use Rattle.reg_rule.specs.declared.view.Key.{Key}
use Rattle.reg_rule.specs.declared.view.View.{View}
use Rattle.reg_rule.specs.declared.remembered.Remembered.{Remembered}
use Rattle.reg_rule.specs.Seats.{IsOf}
use Rattle.reg_rule.specs.Conditions.{MayStorePin}
use Rattle.reg_rule.specs.inner.Rule.{sizes}
use Rattle.reg_rule.proofs.Remembering.{is_of_number}
use Rattle.reg_rule.proofs.StoresPin.{stores_pin_at}
use Rattle.reg_rule.proofs.sweep_steps.store_pin_as.Goals as goal

pub store-requires : goal.store-requires
store-requires g c =
    let wv = c.words.view_is in let pv = c.pass.view_is in let wi = c.words.invariant in let pi = c.pass.invariant in let told = c.requires.told in let at = c.pin_at-at.ensures in
    let key : Key = c.words.inside.table.shared.key in let v : View = c.pass.inside.seat.me.0 in
    let may : MayStorePin g.T.Telling.told c.args.new v = subst (λ (z : Told). MayStorePin z c.args.new v) (sym told) (subst (λ (z : TableId × View). MayStorePin c.args.told c.args.new z.1) (sym pv) c.requires.may) in
    let n : ℕ = c.pass.inside.remembered.number in let of : IsOf v n = is_of_number v n pi.one (ap (λ (z : Remembered). z.number) pi.remembered) in
    let knows : v.key ≡ key = ap (λ (z : TableId × View). z.1.key) pv ∙ (c.requires.own.1 ∙ sym (ap (λ (z : TableId × Key). z.1) wv)) in
    let low : n < key.sizes.callers = subst (λ (z : Key). n < z.sizes.callers) knows pi.below in
    let same : start (sizes key) PIN ≡ start (sizes c.args.words.now.1) PIN = ap (λ (z : TableId × Key). start (sizes z.1) PIN) wv in (
      ap (λ (z : TableId × View). z.0) pv ∙ (c.requires.own.0 ∙ sym (ap (λ (z : TableId × Key). z.0) wv)),
      (let room = inside (sizes key) PIN n low in let count = wi.0 in omega arith),
      stores_pin_at key _ _ _ g.T.Telling.told n c.args.new _ (omega arith) may of pi.live,
    )
