use Rattle.std.proofs.Common.{◌≡◌, ℕ, ap, ◌∙◌, sym, subst, arith}
use Rattle.atomic_table.specs.Seated.{TableId}
use Rattle.reg_rule.specs.declared.view.Key.{Key}
use Rattle.reg_rule.specs.declared.view.Taking.TheVariants.{Named}
use Rattle.reg_rule.specs.declared.view.View.{View}
use Rattle.reg_rule.specs.Conditions.{MaySwapTake}
use Rattle.reg_rule.proofs.SwapsTake.{swaps_take}
use Rattle.reg_rule.proofs.ring_steps.swap_take_as.Goals as goal

pub compare_exchange-found-requires : goal.compare_exchange-found-requires
compare_exchange-found-requires g c =
    let wv = c.words.view_is in let pv = c.pass.view_is in let count = c.words.invariant.0 in let v : View = c.pass.inside.seat.me.0 in
    let may : MaySwapTake c.args.old c.args.new v = subst (λ (z : TableId × View). MaySwapTake c.args.old c.args.new z.1) (sym pv) c.requires.may in
    let named : (p : ℕ) × (v.taking ≡ Named c.args.old p g.T.Telling.at) = subst (λ (n : ℕ). (p : ℕ) × (v.taking ≡ Named c.args.old p n)) (sym c.requires.told) (subst (λ (z : TableId × View). (p : ℕ) × (z.1.taking ≡ Named c.args.old p c.args.entry)) (sym pv) c.requires.entry) in (
      ap (λ (z : TableId × View). z.0) pv ∙ (c.requires.own.0 ∙ sym (ap (λ (z : TableId × Key). z.0) wv)),
      omega arith,
      swaps_take c.words.inside.table.shared.key _ _ _ c.args.old c.args.new g.T.Telling.at may named c.pass.invariant.live (let one = c.pass.invariant.one in omega arith),
    )
