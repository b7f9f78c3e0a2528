use Rattle.std.proofs.Common.{◌≡◌, ◌<◌, ℕ, ap, ◌∙◌, sym, subst, arith}
use Rattle.atomic_table.specs.Seated.{TableId}
use Rattle.reg_words.specs.Memory.{LOG, start}
use Rattle.reg_words.proofs.Memory.{inside}
use Rattle.reg_rule.specs.declared.view.Key.{Key}
use Rattle.reg_rule.specs.declared.view.Place.{Place}
use Rattle.reg_rule.specs.declared.view.View.{View}
use Rattle.reg_rule.specs.Log.{place_of}
use Rattle.reg_rule.specs.Conditions.{MaySwapLog}
use Rattle.reg_rule.specs.inner.Rule.{sizes}
use Rattle.reg_rule.proofs.SwapsLog.{swaps_log_at}
use Rattle.reg_rule.proofs.log_steps.swap_log_as.Goals as goal

pub compare_exchange-found-requires : goal.compare_exchange-found-requires
compare_exchange-found-requires g c =
    let wv = c.words.view_is in let pv = c.pass.view_is in let wi = c.words.invariant in let pi = c.pass.invariant in let told = c.requires.told in let here = told.0 in let at = c.log_at-at.ensures in
    let key : Key = c.words.inside.table.shared.key in let v : View = c.pass.inside.seat.me.0 in
    let may : MaySwapLog g.T.Telling.at c.args.old c.args.new g.T.Telling.place v = subst (λ (z : ℕ × Place). MaySwapLog z.0 c.args.old c.args.new z.1 v) (λ j. (sym told.0 j, sym told.1 j)) (subst (λ (z : TableId × View). MaySwapLog c.args.place c.args.old c.args.new (place_of c.args.update.now c.args._entry) z.1) (sym pv) c.requires.may) in
    let low : c.args.place < key.sizes.log = subst (λ (z : TableId × Key). c.args.place < z.1.sizes.log) (sym wv) c.requires.within in
    let same : start (sizes key) LOG ≡ start (sizes c.args.words.now.1) LOG = ap (λ (z : TableId × Key). start (sizes z.1) LOG) wv in (
      ap (λ (z : TableId × View). z.0) pv ∙ (c.requires.own.0 ∙ sym (ap (λ (z : TableId × Key). z.0) wv)),
      (let room = inside (sizes key) LOG c.args.place low in let count = wi.0 in omega arith),
      swaps_log_at key _ _ _ g.T.Telling.at c.args.old c.args.new _ g.T.Telling.place (omega arith) may pi.live (let one = pi.one in omega arith),
    )
