use Rattle.std.proofs.Common.{ap, ◌∙◌, sym, subst, arith}
use Rattle.atomic_table.specs.Seated.{TableId}
use Rattle.reg_rule.specs.declared.view.Key.{Key}
use Rattle.reg_rule.specs.declared.view.View.{View}
use Rattle.reg_rule.specs.Conditions.{MaySwapSweep}
use Rattle.reg_rule.proofs.SwapsSweep.{swaps_sweep}
use Rattle.reg_rule.proofs.sweep_steps.swap_sweep_as.Goals as goal

pub compare_exchange-found-requires : goal.compare_exchange-found-requires
compare_exchange-found-requires g c =
    let wv = c.words.view_is in let pv = c.pass.view_is in let count = c.words.invariant.0 in let pi = c.pass.invariant in
    let key : Key = c.words.inside.table.shared.key in let v : View = c.pass.inside.seat.me.0 in
    let may : MaySwapSweep c.args.old c.args.new v = subst (λ (z : TableId × View). MaySwapSweep c.args.old c.args.new z.1) (sym pv) c.requires.may in (
      ap (λ (z : TableId × View). z.0) pv ∙ (c.requires.own.0 ∙ sym (ap (λ (z : TableId × Key). z.0) wv)),
      omega arith,
      swaps_sweep key _ _ _ g.T.Telling.told c.args.old c.args.new may pi.live (let one = pi.one in omega arith),
    )
