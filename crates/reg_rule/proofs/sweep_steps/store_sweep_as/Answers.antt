use Rattle.std.proofs.Common.{ap, ◌∙◌, sym, subst, arith}
use Rattle.atomic_table.specs.Seated.{TableId}
use Rattle.reg_words.specs.declared.word.SweepWord.{SweepWord}
use Rattle.reg_rule.specs.declared.view.Key.{Key}
use Rattle.reg_rule.specs.declared.view.View.{View}
use Rattle.reg_rule.specs.Conditions.{MayStoreSweep}
use Rattle.reg_rule.proofs.StoresSweep.{stores_sweep_at}
use Rattle.reg_rule.proofs.sweep_steps.store_sweep_as.Goals as goal

pub store-requires : goal.store-requires
store-requires g c =
    let wv = c.words.view_is in let pv = c.pass.view_is in let count = c.words.invariant.0 in let told = c.requires.told in
    let key : Key = c.words.inside.table.shared.key in let v : View = c.pass.inside.seat.me.0 in
    let may : MayStoreSweep c.args.new g.T.Telling.word v = subst (λ (z : SweepWord). MayStoreSweep c.args.new z v) (sym told.1) (subst (λ (z : TableId × View). MayStoreSweep c.args.new c.args._word.now z.1) (sym pv) c.requires.may) in (
      ap (λ (z : TableId × View). z.0) pv ∙ (c.requires.own.0 ∙ sym (ap (λ (z : TableId × Key). z.0) wv)),
      omega arith,
      stores_sweep_at key _ _ _ g.T.Telling.told g.T.Telling.word c.args.new _ (omega arith) may,
    )
