use Rattle.std.proofs.Common.{◌≡◌, ◌<◌, ap, ◌∙◌, sym, subst, arith}
use Rattle.atomic_table.specs.Seated.{TableId}
use Rattle.reg_words.specs.Memory.{STAMP, start}
use Rattle.reg_words.proofs.Memory.{inside}
use Rattle.reg_rule.specs.declared.view.Key.{Key}
use Rattle.reg_rule.specs.declared.view.View.{View}
use Rattle.reg_rule.specs.Conditions.{MaySwapBirth}
use Rattle.reg_rule.specs.inner.Rule.{sizes}
use Rattle.reg_rule.proofs.SwapsBirth.{swaps_birth_at}
use Rattle.reg_rule.proofs.help_steps.swap_birth.Goals as goal

pub compare_exchange-requires : goal.compare_exchange-requires
compare_exchange-requires c =
    let wv = c.words.view_is in let pv = c.pass.view_is in let wi = c.words.invariant in let pi = c.pass.invariant in let at = c.stamp_at-at.ensures in
    let key : Key = c.words.inside.table.shared.key in let v : View = c.pass.inside.seat.me.0 in
    let same : v.key ≡ key = ap (λ (z : TableId × View). z.1.key) pv ∙ (c.requires.own.1 ∙ sym (ap (λ (z : TableId × Key). z.1) wv)) in
    let may : MaySwapBirth c.args.entry c.args.old c.args.new v = subst (λ (z : TableId × View). MaySwapBirth c.args.entry c.args.old c.args.new z.1) (sym pv) c.requires.may in
    let low : c.args.entry < key.entries = subst (λ (z : Key). c.args.entry < z.entries) same may.inside in
    let place : start (sizes key) STAMP ≡ start (sizes c.args.words.now.1) STAMP = ap (λ (z : TableId × Key). start (sizes z.1) STAMP) wv in (
      ap (λ (z : TableId × View). z.0) pv ∙ (c.requires.own.0 ∙ sym (ap (λ (z : TableId × Key). z.0) wv)),
      (let room = inside (sizes key) STAMP c.args.entry low in let count = wi.0 in omega arith),
      swaps_birth_at key _ _ _ c.args.entry c.args.old c.args.new _ (omega arith) may pi.live,
    )
