use Rattle.std.proofs.Common.{◌≡◌, ◌<◌, ◌+◌, ℕ, ap, ◌∙◌, sym, subst, arith}
use Rattle.atomic_table.specs.Seated.{TableId}
use Rattle.reg_words.specs.Memory.{NEXT, start}
use Rattle.reg_words.proofs.Memory.{inside}
use Rattle.reg_rule.specs.declared.view.Key.{Key}
use Rattle.reg_rule.specs.declared.view.View.{View}
use Rattle.reg_rule.specs.Seats.{hand_of}
use Rattle.reg_rule.specs.Conditions.{MayStoreNext}
use Rattle.reg_rule.specs.inner.ChainParts.{next_cell}
use Rattle.reg_rule.specs.inner.Rule.{sizes}
use Rattle.reg_rule.proofs.StoresHeld.{same_hand}
use Rattle.reg_rule.proofs.StoresNext.{stores_next_as, cell_inside}
use Rattle.reg_rule.proofs.chain_steps.store_next_as.Goals as goal

pub store-requires : goal.store-requires
store-requires g c =
    let wv = c.words.view_is in let pv = c.pass.view_is in let wi = c.words.invariant in let at = c.next_at-at.ensures in
    let key : Key = c.words.inside.table.shared.key in let v : View = c.pass.inside.seat.me.0 in
    let same : v.key ≡ key = ap (λ (z : TableId × View). z.1.key) pv ∙ (c.requires.own.1 ∙ sym (ap (λ (z : TableId × Key). z.1) wv)) in
    let may : MayStoreNext c.args.table v = subst (λ (z : TableId × View). MayStoreNext c.args.table z.1) (sym pv) c.requires.may in
    let o = may.hand in
    let is : o.0.entry ≡ c.args.entry = same_hand v o.0 c.args.entry o.1 (ap (λ (z : TableId × View). hand_of z.1) pv ∙ c.requires.entry) in
    let low : o.0.entry < key.entries = subst (λ (z : Key). o.0.entry < z.entries) same o.2 in
    let spot : ℕ = start (sizes key) NEXT + next_cell key.entries c.args.table o.0.entry in
    let place : spot ≡ start (sizes c.args.words.now.1) NEXT + next_cell c.args.words.now.1.entries c.args.table c.args.entry = ap (λ (z : TableId × Key). start (sizes z.1) NEXT + next_cell z.1.entries c.args.table o.0.entry) wv ∙ ap (λ (e : ℕ). start (sizes c.args.words.now.1) NEXT + next_cell c.args.words.now.1.entries c.args.table e) is in
    let there = at ∙ sym place in (
      ap (λ (z : TableId × View). z.0) pv ∙ (c.requires.own.0 ∙ sym (ap (λ (z : TableId × Key). z.0) wv)),
      (let room = inside (sizes key) NEXT (next_cell key.entries c.args.table o.0.entry) (cell_inside key.entries c.args.table o.0.entry may.table_is low) in let count = wi.0 in omega arith),
      stores_next_as key _ _ _ g.T.Telling.table c.args.table _ c.args.new may c.requires.told there,
    )

pub next_at-at-requires : goal.next_at-at-requires
next_at-at-requires g c = let o = c.requires.may.hand in let is = same_hand c.args.pass.now.1 o.0 c.args.entry o.1 c.requires.entry in
    let low : o.0.entry < c.args.words.now.1.entries = subst (λ (z : Key). o.0.entry < z.entries) c.requires.own.1 o.2 in record { table = c.requires.may.table_is; entry = omega arith }
