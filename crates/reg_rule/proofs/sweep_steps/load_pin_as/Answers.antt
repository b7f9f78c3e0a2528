use Rattle.std.proofs.Common.{◌≡◌, ◌<◌, ℕ, ap, ◌∙◌, sym, subst, arith}
use Rattle.atomic_table.specs.Seated.{TableId}
use Rattle.reg_words.specs.Memory.{PIN}
use Rattle.reg_words.proofs.Memory.{inside}
use Rattle.reg_rule.specs.declared.view.Key.{Key}
use Rattle.reg_rule.specs.declared.view.View.{View}
use Rattle.reg_rule.specs.inner.Rule.{sizes}
use Rattle.reg_rule.specs.Conditions.{MayLoadPin}
use Rattle.reg_rule.proofs.LoadsPin.{loads_pin_at}
use Rattle.reg_rule.proofs.sweep_steps.load_pin_as.Goals as goal

pub load-requires : goal.load-requires
load-requires g c =
    let wv = c.words.view_is in let pv = c.pass.view_is in let wi = c.words.invariant in let pi = c.pass.invariant in let told = c.requires.told in let at = c.pin_at-at.ensures in
    let key : Key = c.words.inside.table.shared.key in let v : View = c.pass.inside.seat.me.0 in
    let same : v.key ≡ key = ap (λ (z : TableId × View). z.1.key) pv ∙ (c.requires.own.1 ∙ sym (ap (λ (z : TableId × Key). z.1) wv)) in
    let may : MayLoadPin g.T.Telling.at v = subst (λ (n : ℕ). MayLoadPin n v) (sym told) (subst (λ (z : TableId × View). MayLoadPin c.args.seat z.1) (sym pv) c.requires.may) in
    let low : g.T.Telling.at < key.sizes.callers = subst (λ (z : Key). g.T.Telling.at < z.sizes.callers) same may.0 in (
      ap (λ (z : TableId × View). z.0) pv ∙ (c.requires.own.0 ∙ sym (ap (λ (z : TableId × Key). z.0) wv)),
      (let room = inside (sizes key) PIN g.T.Telling.at low in let count = wi.0 in omega arith),
      loads_pin_at key _ _ _ g.T.Telling.at _ (omega arith) pi.live (let one = pi.one in omega arith) may,
    )
