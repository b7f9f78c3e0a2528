use Rattle.std.proofs.Common.{◌≡◌, ◌<◌, ap, ◌∙◌, sym, subst, arith}
use Rattle.atomic_table.specs.Seated.{TableId}
use Rattle.reg_words.specs.Memory.{CODE, start}
use Rattle.reg_words.proofs.Memory.{inside}
use Rattle.reg_rule.specs.declared.view.Key.{Key}
use Rattle.reg_rule.specs.declared.view.View.{View}
use Rattle.reg_rule.specs.Seats.{hand_of}
use Rattle.reg_rule.specs.Conditions.{MayStoreHeld}
use Rattle.reg_rule.specs.inner.Rule.{sizes}
use Rattle.reg_rule.proofs.StoresHeld.{stores_code_as, same_hand}
use Rattle.reg_rule.proofs.ring_steps.store_code_as.Goals as goal

pub store-requires : goal.store-requires
store-requires g c =
    let wv = c.words.view_is in let pv = c.pass.view_is in let wi = c.words.invariant in let at = c.code_at-at.ensures in
    let key : Key = c.words.inside.table.shared.key in let v : View = c.pass.inside.seat.me.0 in
    let same : v.key ≡ key = ap (λ (z : TableId × View). z.1.key) pv ∙ (c.requires.own.1 ∙ sym (ap (λ (z : TableId × Key). z.1) wv)) in
    let may : MayStoreHeld v = subst (λ (z : TableId × View). MayStoreHeld z.1) (sym pv) c.requires.may in
    let is : may.0.entry ≡ c.args.entry = same_hand v may.0 c.args.entry may.1 (ap (λ (z : TableId × View). hand_of z.1) pv ∙ c.requires.entry) in
    let low : may.0.entry < key.entries = subst (λ (z : Key). may.0.entry < z.entries) same may.2 in
    let place : start (sizes key) CODE ≡ start (sizes c.args.words.now.1) CODE = ap (λ (z : TableId × Key). start (sizes z.1) CODE) wv in (
      ap (λ (z : TableId × View). z.0) pv ∙ (c.requires.own.0 ∙ sym (ap (λ (z : TableId × Key). z.0) wv)),
      (let room = inside (sizes key) CODE may.0.entry low in let count = wi.0 in omega arith),
      stores_code_as key _ _ _ _ c.args.code g.T.Telling.code may c.requires.told (omega arith),
    )

pub code_at-at-requires : goal.code_at-at-requires
code_at-at-requires g c = let may = c.requires.may in let is = same_hand c.args.pass.now.1 may.0 c.args.entry may.1 c.requires.entry in
    let low : may.0.entry < c.args.words.now.1.entries = subst (λ (z : Key). may.0.entry < z.entries) c.requires.own.1 may.2 in omega arith
