use Rattle.std.proofs.Common.{◌≡◌, ◌<◌, ℕ, ap, ◌∙◌, sym, subst, arith}
use Rattle.atomic_table.specs.Seated.{TableId}
use Rattle.reg_words.specs.Memory.{CODE, start}
use Rattle.reg_words.proofs.Memory.{inside}
use Rattle.reg_rule.specs.declared.told.Told.{Told}
use Rattle.reg_rule.specs.declared.view.Key.{Key}
use Rattle.reg_rule.specs.declared.view.View.{View}
use Rattle.reg_rule.specs.Conditions.{MayLoadCode}
use Rattle.reg_rule.specs.inner.Rule.{sizes}
use Rattle.reg_rule.proofs.LoadsCode.{loads_code_at}
use Rattle.reg_rule.proofs.look_steps.load_code_as.Goals as goal

pub load-requires : goal.load-requires
load-requires g c =
    let wv = c.words.view_is in let pv = c.pass.view_is in let wi = c.words.invariant in let pi = c.pass.invariant in let told = c.requires.told in let here = told.1 in let at = c.code_at-at.ensures in
    let key : Key = c.words.inside.table.shared.key in let v : View = c.pass.inside.seat.me.0 in
    let same : v.key ≡ key = ap (λ (z : TableId × View). z.1.key) pv ∙ (c.requires.own.1 ∙ sym (ap (λ (z : TableId × Key). z.1) wv)) in
    let may : MayLoadCode g.T.Telling.told g.T.Telling.at v = subst (λ (z : Told × ℕ). MayLoadCode z.0 z.1 v) (λ j. (sym told.0 j, sym told.1 j)) (subst (λ (z : TableId × View). MayLoadCode c.args._told c.args.entry z.1) (sym pv) c.requires.may) in
    let low : g.T.Telling.at < key.entries = subst (λ (z : Key). g.T.Telling.at < z.entries) same may.inside in
    let place : start (sizes key) CODE ≡ start (sizes c.args.words.now.1) CODE = ap (λ (z : TableId × Key). start (sizes z.1) CODE) wv in (
      ap (λ (z : TableId × View). z.0) pv ∙ (c.requires.own.0 ∙ sym (ap (λ (z : TableId × Key). z.0) wv)),
      (let room = inside (sizes key) CODE g.T.Telling.at low in let count = wi.0 in omega arith),
      loads_code_at key _ _ _ g.T.Telling.told g.T.Telling.at _ (omega arith) may pi.live (let one = pi.one in omega arith),
    )
