use Rattle.std.proofs.Common.{◌≡◌, ◌<◌, ℕ, ap, ◌∙◌, sym, subst, arith}
use Rattle.atomic_table.specs.Seated.{TableId}
use Rattle.reg_words.specs.Memory.{NOTE, start}
use Rattle.reg_words.proofs.Memory.{inside}
use Rattle.reg_rule.specs.declared.view.Key.{Key}
use Rattle.reg_rule.specs.declared.view.View.{View}
use Rattle.reg_rule.specs.inner.Rule.{sizes}
use Rattle.reg_rule.specs.Conditions.{MayStoreNote}
use Rattle.reg_rule.proofs.StoresNote.{stores_note_at}
use Rattle.reg_rule.proofs.help_steps.store_note_as.Goals as goal

pub store-requires : goal.store-requires
store-requires g c =
    let wv = c.words.view_is in let pv = c.pass.view_is in let wi = c.words.invariant in let pi = c.pass.invariant in let told = c.requires.told in let at = c.note_at-at.ensures in
    let key : Key = c.words.inside.table.shared.key in let v : View = c.pass.inside.seat.me.0 in
    let may : MayStoreNote g.T.Telling.at c.args.new v = subst (λ (n : ℕ). MayStoreNote n c.args.new v) (sym told) (subst (λ (z : TableId × View). MayStoreNote c.args.place c.args.new z.1) (sym pv) c.requires.may) in
    let low : c.args.place < key.sizes.log = subst (λ (z : TableId × Key). c.args.place < z.1.sizes.log) (sym wv) c.requires.within in
    let same : start (sizes key) NOTE ≡ start (sizes c.args.words.now.1) NOTE = ap (λ (z : TableId × Key). start (sizes z.1) NOTE) wv in (
      ap (λ (z : TableId × View). z.0) pv ∙ (c.requires.own.0 ∙ sym (ap (λ (z : TableId × Key). z.0) wv)),
      (let room = inside (sizes key) NOTE c.args.place low in let count = wi.0 in omega arith),
      stores_note_at key _ _ _ g.T.Telling.at c.args.new _ (omega arith) may pi.live,
    )
